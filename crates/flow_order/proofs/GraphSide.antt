-- The evaluation of a graph whose lines wait for lines above them alone, line by line: a line is cancelled exactly where a path along which faults pass leads to it from a line that faulted.
use Rattle.std.proofs.Common.{◌≡◌, ℕ, zero, suc, ◌<◌, ◌≤◌, true, inl, inr, List, [], ◌∷◌, ◌++◌, length, refl, sym, ◌∙◌, ap, subst, arith}
use Rattle.std.specs.Prelude.{Contains, ◌≢◌}
use Rattle.std.proofs.lemmas.Bool.{true≢false, cases_order}
use Rattle.std.proofs.lemmas.List.Elements.{Contains-append_cases}
use Rattle.graph_terms.specs.declared.outcome.End.TheVariants.{Faulted}
use Rattle.graph_terms.specs.declared.outcome.End.{End}
use Rattle.graph_terms.specs.declared.verb.Edge.{Edge}
use Rattle.graph_terms.specs.declared.verb.EdgeKind.{EdgeKind}
use Rattle.graph_terms.specs.declared.verb.EdgeKind.TheVariants.{Passes, Ignores, Faults}
use Rattle.graph_terms.specs.declared.verb.Line.{Line}
use Rattle.graph_terms.specs.declared.verb.Verb.{Verb}
use Rattle.graph_terms.specs.declared.verb.Verb.TheVariants.{User, Trigger, Cancel, Merge, MergeIgnore, Phase, Arrive}
use Rattle.graph_terms.specs.Graph.{GraphValue}
use Rattle.graph_terms.specs.Edges.{edge, on_edges, verb_edges, line_edges, edges_after, edges}
use Rattle.graph_meaning.specs.Path.{Path, last, first}
use Rattle.graph_terms.specs.Fits.{IsGraph}
use Rattle.graph_meaning.specs.Evaluation.{is_ended, end_in, step_of, steps_after, advance_by, eval_end, Unbroken, faults, faulted, on}
use Rattle.basics.proofs.ListFacts.{contains_none, contains_here, contains_there, map_contains, filter_contains, contains_filter}
use Rattle.graph_meaning.proofs.Public.{end_in-push, end_in_last, step_of-line, step_of-ended}
use Rattle.flow_order.specs.Forward.{leads_forward, AllForward}
use Rattle.flow_order.specs.Orders.{is_passing, passing_edges}
use Rattle.flow_order.proofs.Forward.{forward_each, next_is, in_order}

-- no edge cancels its target
edge_kind : (k n : ℕ) (kind : EdgeKind) (e : Edge) → edge k n kind ≡ e → kind ≢ Faults → e.kind ≢ Faults
edge_kind k n kind e s h = subst (λ (x : Edge). x.kind ≢ Faults) s h

on_kind : (es : List ℕ) (n : ℕ) (e : Edge) → Contains (on_edges es n) e → e.kind ≢ Faults
on_kind es n e c = let m = map_contains (λ x. edge x n Passes) es e c in edge_kind m.0 n Passes e m.2 (λ h. cc)

verb_kind : (b : List Line) (v : Verb) → leads_forward v ≡ true → (e : Edge) → Contains (verb_edges b (length b) v) e → e.kind ≢ Faults
verb_kind b User f e c = absurd (true≢false (sym f))
verb_kind b (Trigger u) f e c = absurd (true≢false (sym f))
verb_kind b (Cancel u) f e c = absurd (true≢false (sym f))
verb_kind b (Merge ks) f e c = let m = map_contains (λ e. edge e (length b) Passes) ks e c in edge_kind m.0 (length b) Passes e m.2 (λ h. cc)
verb_kind b (MergeIgnore ks) f e c = let m = map_contains (λ e. edge e (length b) Ignores) ks e c in edge_kind m.0 (length b) Ignores e m.2 (λ h. cc)
verb_kind b (Phase p) f e c = absurd (true≢false (sym f))
verb_kind b (Arrive p w weight) f e c = absurd (true≢false (sym f))
verb_kind b v f e c = absurd (contains_none e c)

lines_kind : (b ls : List Line) → ((l : Line) → Contains ls l → leads_forward l.verb ≡ true) → (e : Edge) → Contains (edges_after b ls) e → e.kind ≢ Faults
lines_kind b [] f e c = absurd (contains_none e c)
lines_kind b (l ∷ ls) f e c = elim (Contains-append_cases (line_edges b l) (edges_after (b ++ l ∷ []) ls) e c) [
  | inl own ↦ elim (Contains-append_cases (on_edges l.on (length b)) (verb_edges b (length b) l.verb) e own) [
    | inl before ↦ on_kind l.on (length b) e before
    | inr verb ↦ verb_kind b l.verb (f l (contains_here l ls)) e verb
  ]
  | inr rest ↦ lines_kind (b ++ l ∷ []) ls (λ m d. f m (contains_there l ls m d)) e rest
]

passes_if : (k : EdgeKind) → k ≢ Ignores → k ≢ Faults → is_passing k ≡ true
passes_if Passes h i = refl
passes_if Ignores h i = absurd (h refl)
passes_if Faults h i = absurd (i refl)

passing_kind : (k : EdgeKind) → is_passing k ≡ true → k ≢ Ignores
passing_kind Passes h = λ e. cc
passing_kind Ignores h = absurd (true≢false (sym h))
passing_kind Faults h = absurd (true≢false (sym h))

path_push : {es : List Edge} {i j : ℕ} → Path es i j → (e : Edge) → Contains es e → e.from ≡ j → Path es i e.to
path_push (last d c p q) e k h = first d c p (last e k (h ∙ sym q) refl)
path_push (first d c p r) e k h = first d c p (path_push r e k h)

module _ (g : GraphValue) (fits : IsGraph g) (f : AllForward g) where
  pub no_faults : (e : Edge) → Contains (edges g) e → e.kind ≢ Faults
  no_faults e c = lines_kind [] g.lines (forward_each g f) e c

  pub next_steps : (n : ℕ) → n < length g.lines → steps_after g (suc n) ≡ steps_after g n ++ step_of g (steps_after g n) n ∷ []
  next_steps n h = ap (advance_by g (steps_after g n)) (next_is g fits f n (steps_after g n) h (in_order g fits f n (omega arith)))

  -- how line k ends, at its turn
  abbrev pub turn_end : ℕ → End
  turn_end k = (step_of g (steps_after g k) k).ends

  pub end_is : (n k : ℕ) → n ≤ length g.lines → k < n → end_in (steps_after g n) k ≡ turn_end k
  end_is zero k h b = absurd (omega arith)
  end_is (suc n) k h b =
      let o = in_order g fits f n (omega arith) in
      ap (λ ss. end_in ss k) (next_steps n (omega arith)) ∙ elim (cases_order k n) [
        | inl same ↦ end_in_last (steps_after g n) (step_of g (steps_after g n) n) k (step_of-line g (steps_after g n) n ∙ sym same) (o.no k (omega arith))
            ∙ ap (λ x. turn_end x) (sym same)
        | inr (inl below) ↦ end_in-push (steps_after g n) (step_of g (steps_after g n) n) k (o.yes k (omega arith)) ∙ end_is n k (omega arith) (omega arith)
        | inr (inr above) ↦ absurd (omega arith)
      ]

  pub eval_is : (k : ℕ) → k < length g.lines → eval_end g k ≡ turn_end k
  eval_is k h = end_is (length g.lines) k (omega arith) h

  pub all_end : (k : ℕ) → k < length g.lines → is_ended (eval_end g k) ≡ true
  all_end k h = ap is_ended (eval_is k h) ∙ step_of-ended g (steps_after g k) k

  -- an unbroken path begins at a line that faulted, and faults pass along it
  pub unbroken_from : {j : ℕ} → Unbroken g j → (i : ℕ) × (eval_end g i ≡ Faulted) × Path (passing_edges g) i j
  unbroken_from (faults e c k to source target) = absurd (no_faults e c k)
  unbroken_from (faulted e c k to source target) =
      (e.from, source, last e (contains_filter (λ (x : Edge). is_passing x.kind) (edges g) e c (passes_if e.kind k (no_faults e c))) refl to)
  unbroken_from {j} (on e c k to source target) =
      let r = unbroken_from source in
      (r.0, r.1, subst (λ x. Path (passing_edges g) r.0 x) to (path_push r.2 e (contains_filter (λ (x : Edge). is_passing x.kind) (edges g) e c (passes_if e.kind k (no_faults e c))) refl))

  pub unbroken_along : {i j : ℕ} → ((e : Edge) → Contains (edges g) e → e.to < length g.lines) → Unbroken g i → Path (passing_edges g) i j → Unbroken g j
  unbroken_along {i} {j} below u (last e c p q) =
      let k = filter_contains (λ (x : Edge). is_passing x.kind) (edges g) e c in
      on e k.0 (passing_kind e.kind k.1) q (subst (λ x. Unbroken g x) (sym p) u) (subst (λ x. is_ended (eval_end g x) ≡ true) q (all_end e.to (below e k.0)))
  unbroken_along {i} {j} below u (first e c p r) =
      let k = filter_contains (λ (x : Edge). is_passing x.kind) (edges g) e c in
      unbroken_along below (on e k.0 (passing_kind e.kind k.1) refl (subst (λ x. Unbroken g x) (sym p) u) (all_end e.to (below e k.0))) r

  pub unbroken_after : {i j : ℕ} → ((e : Edge) → Contains (edges g) e → e.to < length g.lines) → eval_end g i ≡ Faulted → Path (passing_edges g) i j → Unbroken g j
  unbroken_after {i} {j} below u (last e c p q) =
      let k = filter_contains (λ (x : Edge). is_passing x.kind) (edges g) e c in
      faulted e k.0 (passing_kind e.kind k.1) q (ap (eval_end g) p ∙ u) (subst (λ x. is_ended (eval_end g x) ≡ true) q (all_end e.to (below e k.0)))
  unbroken_after {i} {j} below u (first e c p r) =
      let k = filter_contains (λ (x : Edge). is_passing x.kind) (edges g) e c in
      unbroken_along below (faulted e k.0 (passing_kind e.kind k.1) refl (ap (eval_end g) p ∙ u) (all_end e.to (below e k.0))) r
