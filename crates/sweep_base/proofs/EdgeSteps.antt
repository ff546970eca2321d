-- The edges into a line, as a loop goes over them.
use Rattle.std.proofs.Common.{◌≡◌, ℕ, ◌<◌, List, length, subst}
use Rattle.std.specs.Prelude.{Contains, ◌==◌}
use Rattle.std.specs.List.{slice_index_or}
use Rattle.std.proofs.lemmas.Bool.{eqb-true}
use Rattle.std.proofs.lemmas.List.Elements.{Contains-get_or}
use Rattle.graph_terms.specs.declared.verb.Edge.{Edge}
use Rattle.graph_terms.specs.Graph.{GraphValue}
use Rattle.graph_terms.specs.Edges.{edges, edges_into}
use Rattle.graph_terms.specs.Fits.{IsGraph}
use Rattle.graph_meaning.specs.Laws.{EdgesBetweenLines}
use Rattle.basics.proofs.ListFacts.{filter_contains}
use Rattle.sweep_base.specs.Laws.{no_edge}

-- an edge into a line, as the loop goes over them
pub edge_in : (g : GraphValue) (i k : ℕ) (es : List Edge) → es ≡ edges_into g i → k < length es → Contains (edges g) (slice_index_or es k no_edge) × ((slice_index_or es k no_edge).to ≡ i)
edge_in g i k es is h =
    let f = filter_contains (λ (e : Edge). e.to == i) (edges g) (slice_index_or es k no_edge) (subst (λ xs. Contains xs (slice_index_or es k no_edge)) is (Contains-get_or es k no_edge h)) in
    (f.0, eqb-true (slice_index_or es k no_edge).to i f.1)

pub source_known : (g : GraphValue) → IsGraph g → EdgesBetweenLines → (i k : ℕ) (es : List Edge) → es ≡ edges_into g i → k < length es → (slice_index_or es k no_edge).from < length g.lines
source_known g f between i k es is h = (between g (slice_index_or es k no_edge) f (edge_in g i k es is h).0).0
