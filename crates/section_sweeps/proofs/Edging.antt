-- The edges into a line and out of it, as loops go over them.
use Rattle.std.proofs.Common.{◌≡◌, ℕ, ◌<◌, List, length, sym, subst}
use Rattle.std.specs.Prelude.{Contains, ◌==◌}
use Rattle.std.specs.List.{slice_index_or}
use Rattle.std.proofs.lemmas.Bool.{eqb-true, eq-eqb}
use Rattle.std.proofs.lemmas.List.Elements.{Contains-get_or}
use Rattle.graph_terms.specs.declared.verb.Edge.{Edge}
use Rattle.graph_terms.specs.Graph.{GraphValue}
use Rattle.graph_terms.specs.Edges.{edges, edges_into, edges_out_of}
use Rattle.graph_terms.specs.Fits.{IsGraph}
use Rattle.graph_meaning.specs.Laws.{EdgesBetweenLines}
use Rattle.basics.proofs.ListFacts.{filter_contains, contains_filter}
use Rattle.sweep_base.specs.Laws.{no_edge}

pub edge_out : (g : GraphValue) (i k : ℕ) (es : List Edge) → es ≡ edges_out_of g i → k < length es → Contains (edges g) (slice_index_or es k no_edge) × ((slice_index_or es k no_edge).from ≡ i)
edge_out g i k es is h =
    let f = filter_contains (λ (e : Edge). e.from == i) (edges g) (slice_index_or es k no_edge) (subst (λ xs. Contains xs (slice_index_or es k no_edge)) is (Contains-get_or es k no_edge h)) in
    (f.0, eqb-true (slice_index_or es k no_edge).from i f.1)

pub listed_into : (g : GraphValue) (i : ℕ) (es : List Edge) → es ≡ edges_into g i → (e : Edge) → Contains (edges g) e → e.to ≡ i → Contains es e
listed_into g i es is e c to = subst (λ xs. Contains xs e) (sym is) (contains_filter (λ (e : Edge). e.to == i) (edges g) e c (eq-eqb e.to i to))

pub listed_out : (g : GraphValue) (i : ℕ) (es : List Edge) → es ≡ edges_out_of g i → (e : Edge) → Contains (edges g) e → e.from ≡ i → Contains es e
listed_out g i es is e c from = subst (λ xs. Contains xs e) (sym is) (contains_filter (λ (e : Edge). e.from == i) (edges g) e c (eq-eqb e.from i from))

pub target_known : (g : GraphValue) → IsGraph g → EdgesBetweenLines → (i k : ℕ) (es : List Edge) → es ≡ edges_out_of g i → k < length es → (slice_index_or es k no_edge).to < length g.lines
target_known g f between i k es is h = (between g (slice_index_or es k no_edge) f (edge_out g i k es is h).0).1
