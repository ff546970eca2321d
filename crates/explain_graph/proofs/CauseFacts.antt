-- Each edge of a graph has a cause.
use Rattle.std.proofs.Common.{◌≡◌, ℕ, suc, ◌+◌, Bool, true, false, cond, ◌⊎◌, inl, inr, List, [], ◌∷◌, ◌++◌, length, refl, sym, ◌∙◌, ap, subst, append_assoc, arith}
use Rattle.std.specs.Prelude.{Contains, ◌==◌, Option, Some, None, slice_get, option_map}
use Rattle.std.specs.List.{list_any}
use Rattle.std.proofs.lemmas.Bool.{true≢false, eq-eqb, eqb-true}
use Rattle.std.proofs.lemmas.Option.{none-some, same_Some, cond_some}
use Rattle.std.proofs.lemmas.List.Elements.{Contains-append_cases}
use Rattle.basics.proofs.ListFacts.{contains_none, contains_cases, map_contains, passes_some, some_passes, got_behind, got_in}
use Rattle.graph_terms.specs.declared.verb.Edge.{Edge}
use Rattle.graph_terms.specs.declared.verb.EdgeKind.{EdgeKind}
use Rattle.graph_terms.specs.declared.verb.EdgeKind.TheVariants.{Passes, Ignores, Faults}
use Rattle.graph_terms.specs.declared.verb.Line.{Line}
use Rattle.graph_terms.specs.declared.verb.Verb.{Verb}
use Rattle.graph_terms.specs.declared.verb.Verb.TheVariants as verb
use Rattle.graph_terms.specs.Graph.{GraphValue, verb_at, is_phase_of}
use Rattle.graph_terms.specs.Edges.{edge, last_place, edges_from_some, on_edges, verb_edges, line_edges, edges_after, edges}
use Rattle.explain_graph.specs.declared.causes.Cause.{Cause}
use Rattle.explain_graph.specs.declared.causes.Cause.TheVariants.{On, Merge, MergeIgnore, Trigger, Cancel, Arrival, PhaseOrder}
use Rattle.explain_graph.specs.Causes.{IsCause, is_on, source_cause, order_cause, target_cause}

one_is : (x e : Edge) → Contains (x ∷ []) e → x ≡ e
one_is x e c = elim (contains_cases x [] e c) [ inl s ↦ s | inr r ↦ absurd (contains_none e r) ]

some_edge : (kind : EdgeKind) (o : Option ℕ) (n : ℕ) (e : Edge) → Contains (edges_from_some kind o n) e → (k : ℕ) × (o ≡ Some k) × (edge k n kind ≡ e)
some_edge kind None n e c = absurd (contains_none e c)
some_edge kind (Some k) n e c = (k, refl, one_is (edge k n kind) e c)

-- the last line that passes is one that does
last_passes : (test : Verb → Bool) (n : ℕ) (ls : List Line) (found : Option ℕ) (k : ℕ) → last_place test n ls found ≡ Some k → (found ≡ Some k) ⊎ ((m : ℕ) × (l : Line) × (k ≡ n + m) × (slice_get ls m ≡ Some l) × (test l.verb ≡ true))
last_passes test n [] found k e = inl e
last_passes test n (l ∷ ls) found k e = by_test (test l.verb) refl (last_passes test (n + 1) ls (cond (test l.verb) (Some n) found) k e)
  where
    by_test : (b : Bool) → test l.verb ≡ b → (cond (test l.verb) (Some n) found ≡ Some k) ⊎ ((m : ℕ) × (l : Line) × (k ≡ n + 1 + m) × (slice_get ls m ≡ Some l) × (test l.verb ≡ true)) →
        (found ≡ Some k) ⊎ ((m : ℕ) × (x : Line) × (k ≡ n + m) × (slice_get (l ∷ ls) m ≡ Some x) × (test x.verb ≡ true))
    by_test b is (inr r) = inr (suc r.0, r.1, (let e : r.0 ≡ r.0 = refl in let p : k ≡ n + 1 + r.0 = r.2 in omega arith), r.3, r.4)
    by_test true is (inl h) = inr (0, l, (let p : n ≡ k = same_Some n k (sym (ap (λ b. cond b (Some n) found) is) ∙ h) in omega arith), refl, is)
    by_test false is (inl h) = inl (sym (ap (λ b. cond b (Some n) found) is) ∙ h)

-- an edge of a graph is of one of its lines
edge_of : (g : GraphValue) (b ls : List Line) → g.lines ≡ b ++ ls → (e : Edge) → Contains (edges_after b ls) e → (a : List Line) × (l : Line) × (rest : List Line) × (g.lines ≡ a ++ l ∷ rest) × Contains (line_edges a l) e
edge_of g b [] parts e c = absurd (contains_none e c)
edge_of g b (l ∷ ls) parts e c = elim (Contains-append_cases (line_edges b l) (edges_after (b ++ l ∷ []) ls) e c) [
  | inl own ↦ (b, l, ls, parts, own)
  | inr later ↦ edge_of g (b ++ l ∷ []) ls (parts ∙ sym (append_assoc b (l ∷ []) ls)) e later
]

-- what the line that gives an edge says of it
module _ (g : GraphValue) (a : List Line) (l : Line) (rest : List Line) (parts : g.lines ≡ a ++ l ∷ rest) (e : Edge) where
  here : slice_get g.lines (length a) ≡ Some l
  here = ap (λ (xs : List Line). slice_get xs (length a)) parts ∙ got_behind a l rest

  verb_is : (v : Verb) → l.verb ≡ v → (n : ℕ) → length a ≡ n → verb_at g n ≡ Some v
  verb_is v is n at = subst (λ z. verb_at g z ≡ Some v) at (ap (option_map (λ (x : Line). x.verb)) here ∙ ap (λ x. Some x) is)

  to_is : (x : Edge) → x ≡ e → x.to ≡ e.to
  to_is x is = ap (λ (y : Edge). y.to) is

  from_is : (x : Edge) → x ≡ e → x.from ≡ e.from
  from_is x is = ap (λ (y : Edge). y.from) is

  barrier_is : (b : ℕ) (v : Verb) → is_phase_of b v ≡ true → v ≡ verb.Phase b
  barrier_is b (verb.Phase c) h = ap (λ z. verb.Phase z) (eqb-true c b h)
  barrier_is b v h = absurd (true≢false (sym h))

  given_verb : (v : Verb) → l.verb ≡ v → Contains (verb_edges a (length a) v) e → (c : Cause) × IsCause g e c
  given_verb (verb.Merge es) is c =
      let m = map_contains (λ k. edge k (length a) Passes) es e c in
      (Merge, (es, verb_is (verb.Merge es) is e.to (to_is (edge m.0 (length a) Passes) m.2), subst (λ z. Contains es z) (from_is (edge m.0 (length a) Passes) m.2) m.1))
  given_verb (verb.MergeIgnore es) is c =
      let m = map_contains (λ k. edge k (length a) Ignores) es e c in
      (MergeIgnore, (es, verb_is (verb.MergeIgnore es) is e.to (to_is (edge m.0 (length a) Ignores) m.2), subst (λ z. Contains es z) (from_is (edge m.0 (length a) Ignores) m.2) m.1))
  given_verb (verb.Trigger u) is c =
      let s = one_is (edge (length a) u Passes) e c in
      (Trigger, subst (λ z. verb_at g e.from ≡ Some (verb.Trigger z)) (to_is (edge (length a) u Passes) s) (verb_is (verb.Trigger u) is e.from (from_is (edge (length a) u Passes) s)))
  given_verb (verb.Cancel u) is c =
      let s = one_is (edge (length a) u Faults) e c in
      (Cancel, subst (λ z. verb_at g e.from ≡ Some (verb.Cancel z)) (to_is (edge (length a) u Faults) s) (verb_is (verb.Cancel u) is e.from (from_is (edge (length a) u Faults) s)))
  given_verb (verb.Arrive p value weight) is c =
      let s = one_is (edge (length a) p Passes) e c in
      (Arrival, (value, weight, subst (λ z. verb_at g e.from ≡ Some (verb.Arrive z value weight)) (to_is (edge (length a) p Passes) s) (verb_is (verb.Arrive p value weight) is e.from (from_is (edge (length a) p Passes) s))))
  given_verb (verb.Phase b) is c =
      let s = some_edge Ignores (last_place (is_phase_of b) 0 a None) (length a) e c in
      elim (last_passes (is_phase_of b) 0 a None s.0 s.1) [
        | inl none ↦ absurd (none-some s.0 none)
        | inr p ↦ (
            let number : p.0 ≡ s.0 = (let z : s.0 ≡ 0 + p.0 = p.2 in omega arith) in
            let there : slice_get g.lines p.0 ≡ Some p.1 = ap (λ (xs : List Line). slice_get xs p.0) parts ∙ got_in a (l ∷ rest) p.0 p.1 p.3 in
            let source : verb_at g p.0 ≡ Some (verb.Phase b) = ap (option_map (λ (x : Line). x.verb)) there ∙ ap (λ x. Some x) (barrier_is b p.1.verb p.4) in
            (PhaseOrder, (b, subst (λ z. verb_at g z ≡ Some (verb.Phase b)) (number ∙ from_is (edge s.0 (length a) Ignores) s.2) source, verb_is (verb.Phase b) is e.to (to_is (edge s.0 (length a) Ignores) s.2))))
      ]
  given_verb v is c = absurd (contains_none e c)

  given_line : Contains (line_edges a l) e → (c : Cause) × IsCause g e c
  given_line c = elim (Contains-append_cases (on_edges l.on (length a)) (verb_edges a (length a) l.verb) e c) [
    | inl on ↦ (
        let m = map_contains (λ k. edge k (length a) Passes) l.on e on in
        (On, (l, subst (λ z. slice_get g.lines z ≡ Some l) (to_is (edge m.0 (length a) Passes) m.2) here, subst (λ z. Contains l.on z) (from_is (edge m.0 (length a) Passes) m.2) m.1)))
    | inr own ↦ given_verb l.verb refl own
  ]

some_cause : (g : GraphValue) (e : Edge) → Contains (edges g) e → (c : Cause) × IsCause g e c
some_cause g e c = let p = edge_of g [] g.lines refl e c in given_line g p.0 p.1 p.2 p.3 e p.4

-- the tests tell a cause, and one of them does
module _ (g : GraphValue) (e : Edge) (source target : Line) (at_source : slice_get g.lines e.from ≡ Some source) (at_target : slice_get g.lines e.to ≡ Some target) where
  source_verb : verb_at g e.from ≡ Some source.verb
  source_verb = ap (option_map (λ (x : Line). x.verb)) at_source

  target_verb : verb_at g e.to ≡ Some target.verb
  target_verb = ap (option_map (λ (x : Line). x.verb)) at_target

  named_in : (es : List ℕ) → list_any (λ k. k == e.from) es ≡ true → Contains es e.from
  named_in es h = let s = some_passes (λ k. k == e.from) es h in subst (λ z. Contains es z) (eqb-true s.0 e.from s.2) s.1

  pub on_is : is_on target e.from ≡ true → IsCause g e On
  on_is h = (target, at_target, named_in target.on h)

  source_by : (v : Verb) → source.verb ≡ v → (c : Cause) → source_cause v e.to ≡ Some c → IsCause g e c
  source_by (verb.Trigger u) is c h = let t = cond_some (u == e.to) Trigger c h in subst (IsCause g e) t.1 (source_verb ∙ (ap (λ z. Some z) is ∙ ap (λ z. Some (verb.Trigger z)) (eqb-true u e.to t.0)))
  source_by (verb.Cancel u) is c h = let t = cond_some (u == e.to) Cancel c h in subst (IsCause g e) t.1 (source_verb ∙ (ap (λ z. Some z) is ∙ ap (λ z. Some (verb.Cancel z)) (eqb-true u e.to t.0)))
  source_by (verb.Arrive p value weight) is c h = let t = cond_some (p == e.to) Arrival c h in subst (IsCause g e) t.1 (value, weight, source_verb ∙ (ap (λ z. Some z) is ∙ ap (λ z. Some (verb.Arrive z value weight)) (eqb-true p e.to t.0)))
  source_by v is c h = absurd (none-some c h)

  pub source_is : (c : Cause) → source_cause source.verb e.to ≡ Some c → IsCause g e c
  source_is c h = source_by source.verb refl c h

  order_by : (b : ℕ) → target.verb ≡ verb.Phase b → (w : Verb) → source.verb ≡ w → (c : Cause) → order_cause b w ≡ Some c → IsCause g e c
  order_by b is (verb.Phase k) was c h = let t = cond_some (b == k) PhaseOrder c h in
      subst (IsCause g e) t.1 (b, source_verb ∙ (ap (λ z. Some z) was ∙ ap (λ z. Some (verb.Phase z)) (sym (eqb-true b k t.0))), target_verb ∙ ap (λ z. Some z) is)
  order_by b is w was c h = absurd (none-some c h)

  target_by : (v : Verb) → target.verb ≡ v → (c : Cause) → target_cause v source.verb e.from ≡ Some c → IsCause g e c
  target_by (verb.Merge es) is c h = let t = cond_some (list_any (λ k. k == e.from) es) Merge c h in subst (IsCause g e) t.1 (es, target_verb ∙ ap (λ z. Some z) is, named_in es t.0)
  target_by (verb.MergeIgnore es) is c h = let t = cond_some (list_any (λ k. k == e.from) es) MergeIgnore c h in subst (IsCause g e) t.1 (es, target_verb ∙ ap (λ z. Some z) is, named_in es t.0)
  target_by (verb.Phase b) is c h = order_by b is source.verb refl c h
  target_by v is c h = absurd (none-some c h)

  pub target_is : (c : Cause) → target_cause target.verb source.verb e.from ≡ Some c → IsCause g e c
  target_is c h = target_by target.verb refl c h

  module _ (not_on : is_on target e.from ≡ false) (no_source : source_cause source.verb e.to ≡ None) (no_target : target_cause target.verb source.verb e.from ≡ None) where
    made_none : (b : Bool) (c : Cause) → b ≡ true → cond b (Some c) None ≡ None → ⊥
    made_none true c is h = none-some c (sym h)
    made_none false c is h = true≢false (sym is)

    source_verb_is : (v : Verb) → verb_at g e.from ≡ Some v → source.verb ≡ v
    source_verb_is v h = same_Some source.verb v (sym source_verb ∙ h)

    target_verb_is : (v : Verb) → verb_at g e.to ≡ Some v → target.verb ≡ v
    target_verb_is v h = same_Some target.verb v (sym target_verb ∙ h)

    source_none : (v : Verb) → verb_at g e.from ≡ Some v → source_cause v e.to ≡ None
    source_none v h = ap (λ z. source_cause z e.to) (sym (source_verb_is v h)) ∙ no_source

    target_none : (v w : Verb) → verb_at g e.to ≡ Some v → verb_at g e.from ≡ Some w → target_cause v w e.from ≡ None
    target_none v w h k = ap (λ z. target_cause z w e.from) (sym (target_verb_is v h)) ∙ (ap (λ z. target_cause target.verb z e.from) (sym (source_verb_is w k)) ∙ no_target)

    refuted : (c : Cause) → IsCause g e c → ⊥
    refuted On h =
        let named : Contains target.on e.from = subst (λ (x : Line). Contains x.on e.from) (sym (same_Some target h.0 (sym at_target ∙ h.1))) h.2 in
        true≢false (sym (passes_some (λ k. k == e.from) target.on e.from named (eq-eqb e.from e.from refl)) ∙ not_on)
    refuted Merge h = made_none (list_any (λ k. k == e.from) h.0) Merge (passes_some (λ k. k == e.from) h.0 e.from h.2 (eq-eqb e.from e.from refl)) (target_none (verb.Merge h.0) source.verb h.1 source_verb)
    refuted MergeIgnore h = made_none (list_any (λ k. k == e.from) h.0) MergeIgnore (passes_some (λ k. k == e.from) h.0 e.from h.2 (eq-eqb e.from e.from refl)) (target_none (verb.MergeIgnore h.0) source.verb h.1 source_verb)
    refuted Trigger h = made_none (e.to == e.to) Trigger (eq-eqb e.to e.to refl) (source_none (verb.Trigger e.to) h)
    refuted Cancel h = made_none (e.to == e.to) Cancel (eq-eqb e.to e.to refl) (source_none (verb.Cancel e.to) h)
    refuted Arrival h = made_none (e.to == e.to) Arrival (eq-eqb e.to e.to refl) (source_none (verb.Arrive e.to h.0 h.1) h.2)
    refuted PhaseOrder h = made_none (h.0 == h.0) PhaseOrder (eq-eqb h.0 h.0 refl) (target_none (verb.Phase h.0) (verb.Phase h.0) h.2 h.1)

    pub no_cause : Contains (edges g) e → ⊥
    no_cause c = let s = some_cause g e c in refuted s.0 s.1
