-- The edges into a line, one after the other.
use Rattle.std.proofs.Common.{◌≡◌, ℕ, ◌+◌, ◌<◌, ◌≤◌, inl, inr, List, length, take, sym, subst}
use Rattle.std.specs.Prelude.{Contains, ◌==◌}
use Rattle.std.specs.List.{slice_index_or}
use Rattle.std.proofs.lemmas.Bool.{eq-eqb}
use Rattle.std.proofs.lemmas.List.{take_more, take_all}
use Rattle.std.proofs.lemmas.List.Elements.{Contains-push_cases, Contains-get_or}
use Rattle.graph_terms.specs.declared.verb.Edge.{Edge}
use Rattle.graph_terms.specs.Graph.{GraphValue}
use Rattle.graph_terms.specs.Edges.{edges, edges_into}
use Rattle.basics.proofs.ListFacts.{filter_contains, contains_filter}
use Rattle.cycle_search.specs.Paths.{EdgesBetween}
use Rattle.cycle_search.proofs.OrderLoops.{no_edge}

-- what holds of the first edges, with one more, and of all edges into a line
pub passed_more : (P : Edge → Type 0) (es : List Edge) (k : ℕ) → k < length es → P (slice_index_or es k no_edge) → ((e : Edge) → Contains (take k es) e → P e) → (e : Edge) → Contains (take (k + 1) es) e → P e
passed_more P es k low here before e c = elim (Contains-push_cases (take k es) (slice_index_or es k no_edge) e (subst (λ ys. Contains ys e) (take_more es k no_edge low) c)) [
  | inl b ↦ before e b
  | inr same ↦ subst P same here
]

pub passed_into : (P : Edge → Type 0) (g : GraphValue) (i : ℕ) (es : List Edge) → es ≡ edges_into g i → (k : ℕ) → length es ≤ k → ((e : Edge) → Contains (take k es) e → P e) → (e : Edge) → Contains (edges g) e → e.to ≡ i → P e
passed_into P g i es is k few all e c to =
    all e (subst (λ ys. Contains ys e) (sym (take_all k es few)) (subst (λ ys. Contains ys e) (sym is) (contains_filter (λ (d : Edge). d.to == i) (edges g) e c (eq-eqb e.to i to))))

-- the source of an edge into a line is a line
pub source_below : (g : GraphValue) → EdgesBetween g → (i k : ℕ) (es : List Edge) → es ≡ edges_into g i → k < length es → (slice_index_or es k no_edge).from < length g.lines
source_below g between i k es is low =
    let f = filter_contains (λ (e : Edge). e.to == i) (edges g) (slice_index_or es k no_edge) (subst (λ xs. Contains xs (slice_index_or es k no_edge)) is (Contains-get_or es k no_edge low)) in
    (between (slice_index_or es k no_edge) f.0).0
