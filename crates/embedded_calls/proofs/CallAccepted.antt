-- The graph is accepted: its lines wait for one another in a row.
use Rattle.std.proofs.Common.{ℕ, zero, suc, ◌<◌, ◌≤◌, false, inl, inr, [], ◌∷◌, refl, sym, ◌∙◌, ap, subst, lit<, arith}
use Rattle.std.specs.Prelude.{Contains, IsTrue, option_map}
use Rattle.std.specs.Option.{option_map_or}
use Rattle.std.proofs.lemmas.Bool.{true≢false}
use Rattle.basics.proofs.ListFacts.{contains_cases, contains_here, contains_there, contains_none}
use Rattle.graph_terms.specs.declared.verb.Access.{Access}
use Rattle.graph_terms.specs.declared.verb.Edge.{Edge}
use Rattle.graph_terms.specs.declared.verb.EdgeKind.TheVariants.{Passes}
use Rattle.graph_terms.specs.declared.verb.Line.{Line}
use Rattle.graph_terms.specs.Graph.{line_passes, is_acquire_of, is_release_of}
use Rattle.graph_terms.specs.Access.{all_accesses}
use Rattle.graph_terms.specs.Edges.{edge, edges}
use Rattle.graph_meaning.specs.Path.{HasPath, last, first}
use Rattle.graph_meaning.specs.Rules.{RaceAt, EverywhereTwice, Accepted}
use Rattle.embedded_calls.specs.CallGraph.{call_graph}

abbrev to_move : Edge
to_move = edge 0 1 Passes

abbrev to_double : Edge
to_double = edge 1 2 Passes

edge_rises : (e : Edge) → Contains (edges call_graph) e → e.from < e.to
edge_rises e c = elim (contains_cases to_move (to_double ∷ []) e c) [
  | inl is ↦ subst (λ (x : Edge). x.from < x.to) is (lit< tt)
  | inr d ↦ elim (contains_cases to_double [] e d) [
    | inl is ↦ subst (λ (x : Edge). x.from < x.to) is (lit< tt)
    | inr none ↦ absurd (contains_none e none)
  ]
]

path_rises : {i j : ℕ} → HasPath call_graph i j → i < j
path_rises {i} {j} (last e c p q) = subst (λ x. x < j) p (subst (λ x. e.from < x) q (edge_rises e c))
path_rises {i} {j} (first e c p r) =
    let one : e.from < e.to = edge_rises e c in
    let rest : e.to < j = path_rises r in
    subst (λ x. x < j) p (omega arith)

no_acquire : (l i : ℕ) → IsTrue (line_passes (is_acquire_of l) call_graph i) → ⊥
no_acquire l zero h = true≢false (sym h)
no_acquire l (suc zero) h = true≢false (sym h)
no_acquire l (suc (suc zero)) h = true≢false (sym h)
no_acquire l (suc (suc (suc k))) h = true≢false (sym h)

no_release : (q i : ℕ) → IsTrue (line_passes (is_release_of q) call_graph i) → ⊥
no_release q zero h = true≢false (sym h)
no_release q (suc zero) h = true≢false (sym h)
no_release q (suc (suc zero)) h = true≢false (sym h)
no_release q (suc (suc (suc k))) h = true≢false (sym h)

few : (i : ℕ) (a : Access) → Contains (all_accesses call_graph i) a → i ≤ 2
few zero a c = omega arith
few (suc zero) a c = omega arith
few (suc (suc zero)) a c = omega arith
few (suc (suc (suc k))) a c = absurd (contains_none a c)

one_two : HasPath call_graph 0 1
one_two = last to_move (contains_here to_move (to_double ∷ [])) refl refl

two_three : HasPath call_graph 1 2
two_three = last to_double (contains_there to_move (to_double ∷ []) to_double (contains_here to_double [])) refl refl

one_three : HasPath call_graph 0 2
one_three = first to_move (contains_here to_move (to_double ∷ [])) refl two_three

-- any two of the three lines have a path between them
between : (i j : ℕ) → i < j → j ≤ 2 → HasPath call_graph i j
between zero zero less near = absurd (omega (arith, less))
between zero (suc zero) less near = one_two
between zero (suc (suc zero)) less near = one_three
between zero (suc (suc (suc k))) less near = absurd (omega (arith, near))
between (suc zero) zero less near = absurd (omega (arith, less))
between (suc zero) (suc zero) less near = absurd (omega (arith, less))
between (suc zero) (suc (suc zero)) less near = two_three
between (suc zero) (suc (suc (suc k))) less near = absurd (omega (arith, near))
between (suc (suc i)) j less near = absurd (omega (arith, less, near))

races : EverywhereTwice (RaceAt call_graph)
races i j less c = inl (between i j less (few j c.other c.other_in))

pub call_accepted : Accepted call_graph
call_accepted = record {
  acyclic = λ i p. let h : i < i = path_rises p in omega arith;
  released = λ i l a. absurd (no_acquire l i a);
  sections = λ i j q r p. absurd (no_release q i r);
  descends = λ i j l k s a. absurd (no_acquire k j a);
  release_faults = λ i q l at r. absurd (no_release q i (ap (λ o. option_map_or (is_release_of q) (option_map (λ (x : Line). x.verb) o) false) at ∙ r));
  «races» = races;
}
