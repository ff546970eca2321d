-- The graph of the sums is accepted.
use Rattle.std.proofs.Common.{◌≡◌, ℕ, zero, suc, ◌<◌, false, ◌⊎◌, inl, inr, [], ◌∷◌, refl, sym, ◌∙◌, ap, subst, lit<, arith}
use Rattle.std.specs.Prelude.{Contains, IsTrue, option_map}
use Rattle.std.specs.Option.{option_map_or}
use Rattle.std.proofs.lemmas.Bool.{true≢false}
use Rattle.basics.proofs.ListFacts.{contains_cases, contains_here, contains_there, contains_none}
use Rattle.graph_terms.specs.declared.verb.Access.{Access}
use Rattle.graph_terms.specs.declared.verb.Edge.{Edge}
use Rattle.graph_terms.specs.declared.verb.EdgeKind.TheVariants.{Passes}
use Rattle.graph_terms.specs.declared.verb.Line.{Line}
use Rattle.graph_terms.specs.declared.verb.Mode.TheVariants.{Write}
use Rattle.graph_terms.specs.Graph.{line_passes, is_acquire_of, is_release_of}
use Rattle.graph_terms.specs.Access.{access, all_accesses}
use Rattle.graph_terms.specs.Edges.{edge, edges}
use Rattle.graph_meaning.specs.Path.{HasPath, last, first}
use Rattle.graph_meaning.specs.Rules.{RaceAt, EverywhereTwice, Accepted}
use Rattle.embedded_run.specs.SumGraph.{sum_graph}

-- the fills lead to the merge, and the merge to the sum
abbrev fill_edge : ℕ → Edge
fill_edge i = edge i 2 Passes

abbrev merge_edge : Edge
merge_edge = edge 2 3 Passes

edge_rises : (e : Edge) → Contains (edges sum_graph) e → e.from < e.to
edge_rises e c = elim (contains_cases (fill_edge 0) (fill_edge 1 ∷ merge_edge ∷ []) e c) [
  | inl is ↦ subst (λ (x : Edge). x.from < x.to) is (lit< tt)
  | inr d ↦ elim (contains_cases (fill_edge 1) (merge_edge ∷ []) e d) [
    | inl is ↦ subst (λ (x : Edge). x.from < x.to) is (lit< tt)
    | inr f ↦ elim (contains_cases merge_edge [] e f) [
      | inl is ↦ subst (λ (x : Edge). x.from < x.to) is (lit< tt)
      | inr none ↦ absurd (contains_none e none)
    ]
  ]
]

path_rises : {i j : ℕ} → HasPath sum_graph i j → i < j
path_rises {i} {j} (last e c p q) = subst (λ x. x < j) p (subst (λ x. e.from < x) q (edge_rises e c))
path_rises {i} {j} (first e c p r) =
    let one : e.from < e.to = edge_rises e c in
    let rest : e.to < j = path_rises r in
    subst (λ x. x < j) p (omega arith)

no_acquire : (l i : ℕ) → IsTrue (line_passes (is_acquire_of l) sum_graph i) → ⊥
no_acquire l zero h = true≢false (sym h)
no_acquire l (suc zero) h = true≢false (sym h)
no_acquire l (suc (suc zero)) h = true≢false (sym h)
no_acquire l (suc (suc (suc zero))) h = true≢false (sym h)
no_acquire l (suc (suc (suc (suc k)))) h = true≢false (sym h)

no_release : (q i : ℕ) → IsTrue (line_passes (is_release_of q) sum_graph i) → ⊥
no_release q zero h = true≢false (sym h)
no_release q (suc zero) h = true≢false (sym h)
no_release q (suc (suc zero)) h = true≢false (sym h)
no_release q (suc (suc (suc zero))) h = true≢false (sym h)
no_release q (suc (suc (suc (suc k)))) h = true≢false (sym h)

-- a fill uses its own column, and the sum comes last
uses : (i : ℕ) (a : Access) → Contains (all_accesses sum_graph i) a → ((i ≡ 0) × (a.column ≡ 0)) ⊎ (((i ≡ 1) × (a.column ≡ 1)) ⊎ (i ≡ 3))
uses zero a c = elim (contains_cases (access 0 0 Write) [] a c) [ inl e ↦ inl (refl, sym (ap (λ (x : Access). x.column) e)) | inr none ↦ absurd (contains_none a none) ]
uses (suc zero) a c = elim (contains_cases (access 1 0 Write) [] a c) [ inl e ↦ inr (inl (refl, sym (ap (λ (x : Access). x.column) e))) | inr none ↦ absurd (contains_none a none) ]
uses (suc (suc zero)) a c = absurd (contains_none a c)
uses (suc (suc (suc zero))) a c = inr (inr refl)
uses (suc (suc (suc (suc k)))) a c = absurd (contains_none a c)

-- each fill has a path to the sum
in_merge : Contains (fill_edge 1 ∷ merge_edge ∷ []) merge_edge
in_merge = contains_there (fill_edge 1) (merge_edge ∷ []) merge_edge (contains_here merge_edge [])

merge_to_sum : HasPath sum_graph 2 3
merge_to_sum = last merge_edge (contains_there (fill_edge 0) (fill_edge 1 ∷ merge_edge ∷ []) merge_edge in_merge) refl refl

fill_to_sum : (i : ℕ) → (i ≡ 0) ⊎ (i ≡ 1) → HasPath sum_graph i 3
fill_to_sum i (inl is) = first (fill_edge 0) (contains_here (fill_edge 0) (fill_edge 1 ∷ merge_edge ∷ [])) (sym is) merge_to_sum
fill_to_sum i (inr is) = first (fill_edge 1) (contains_there (fill_edge 0) (fill_edge 1 ∷ merge_edge ∷ []) (fill_edge 1) (contains_here (fill_edge 1) (merge_edge ∷ []))) (sym is) merge_to_sum

races : EverywhereTwice (RaceAt sum_graph)
races i j less c = elim (uses i c.one c.one_in) [
  | inl one ↦ elim (uses j c.other c.other_in) [
    | inl other ↦ absurd (let a : i ≡ 0 = one.0 in let b : j ≡ 0 = other.0 in omega arith)
    | inr (inl other) ↦ absurd (let a : c.one.column ≡ 0 = one.1 in let b : c.other.column ≡ 1 = other.1 in let same : c.one.column ≡ c.other.column = c.conflict.column in omega arith)
    | inr (inr other) ↦ inl (subst (HasPath sum_graph i) (sym other) (fill_to_sum i (inl one.0)))
  ]
  | inr (inl one) ↦ elim (uses j c.other c.other_in) [
    | inl other ↦ absurd (let a : i ≡ 1 = one.0 in let b : j ≡ 0 = other.0 in omega arith)
    | inr (inl other) ↦ absurd (let a : i ≡ 1 = one.0 in let b : j ≡ 1 = other.0 in omega arith)
    | inr (inr other) ↦ inl (subst (HasPath sum_graph i) (sym other) (fill_to_sum i (inr one.0)))
  ]
  | inr (inr one) ↦ elim (uses j c.other c.other_in) [
    | inl other ↦ absurd (let b : j ≡ 0 = other.0 in omega arith)
    | inr (inl other) ↦ absurd (let b : j ≡ 1 = other.0 in omega arith)
    | inr (inr other) ↦ absurd (omega arith)
  ]
]

pub sum_accepted : Accepted sum_graph
sum_accepted = record {
  acyclic = λ i p. let h : i < i = path_rises p in omega arith;
  released = λ i l a. absurd (no_acquire l i a);
  sections = λ i j q r p. absurd (no_release q i r);
  descends = λ i j l k s a. absurd (no_acquire k j a);
  release_faults = λ i q l at r. absurd (no_release q i (ap (λ o. option_map_or (is_release_of q) (option_map (λ (x : Line). x.verb) o) false) at ∙ r));
  races = races;
}
