-- Without cycles a line that has not ended is reached by one that never comes, or some line is ready.
use Rattle.std.proofs.Common.{◌≡◌, ℕ, zero, suc, ◌+◌, ◌<◌, ◌≤◌, Bool, true, false, not, ◌||◌, inl, inr, List, map, refl, sym, ◌∙◌, ap, subst, arith}
use Rattle.std.specs.Prelude.{Contains, filter, ◌==◌}
use Rattle.std.specs.List.{list_all}
use Rattle.std.proofs.lemmas.Bool.{true≢false, cases_Bool, eq-eqb, eqb-true, or_cases, false_from_ne_true, not_from_true, not_from_false, or_left}
use Rattle.graph_terms.specs.declared.verb.Edge.{Edge}
use Rattle.graph_meaning.specs.Path.{Path, last, first}
use Rattle.graph_meaning.proofs.PathLaws.{path_append}
use Rattle.basics.proofs.ListFacts.{passes_each, fails_some, filter_contains, contains_filter, contains_map, map_contains, fewer_below, some_below, count_below-max}
use Rattle.basics.specs.Lists.{count_below}
use Rattle.graph_meaning.specs.Turns.{ReadyOrNever}

-- the lines from which edges enter a line
abbrev pub from_into : List Edge → ℕ → List ℕ
from_into es i = map (λ (e : Edge). e.from) (filter (λ (e : Edge). e.to == i) es)

-- each source of a line passes, or one does not
pub source_passes : (es : List Edge) (t : ℕ → Bool) (i : ℕ) → list_all t (from_into es i) ≡ true → (e : Edge) → Contains es e → e.to ≡ i → t e.from ≡ true
source_passes es t i h e c to = passes_each t (from_into es i) h e.from
    (contains_map (λ (e : Edge). e.from) (filter (λ (e : Edge). e.to == i) es) e (contains_filter (λ (e : Edge). e.to == i) es e c (eq-eqb e.to i to)))

pub source_fails : (es : List Edge) (t : ℕ → Bool) (i : ℕ) → list_all t (from_into es i) ≡ false → (e : Edge) × Contains es e × (e.to ≡ i) × (t e.from ≡ false)
source_fails es t i h =
    let f = fails_some t (from_into es i) h in
    let m = map_contains (λ (e : Edge). e.from) (filter (λ (e : Edge). e.to == i) es) f.0 f.1 in
    let k = filter_contains (λ (e : Edge). e.to == i) es m.0 m.1 in
    (m.0, k.0, eqb-true m.0.to i k.1, ap t m.2 ∙ f.2)

module _ (es : List Edge) (n : ℕ) (never ended : ℕ → Bool) (in_range : (e : Edge) → Contains es e → e.from < n) (acyclic : (i : ℕ) → Path es i i → ⊥) where
  -- what holds of a source holds of the line
  onward : (e : Edge) → Contains es e → ReadyOrNever es n never ended e.from → ReadyOrNever es n never ended e.to
  onward e c (inl r) = inl (r.0, r.1, inr (elim r.2 [ inl s ↦ last e c (sym s) refl | inr p ↦ path_append p (last e c refl refl) ]))
  onward e c (inr (inl h)) = inr (inr (e.from, h, last e c refl refl))
  onward e c (inr (inr r)) = inr (inr (r.0, r.1, path_append r.2 (last e c refl refl)))

  -- the lines that were passed, and one more
  passed_too : ℕ → (ℕ → Bool) → ℕ → Bool
  passed_too i passed k = (k == i) || passed k

  passed_path : (i : ℕ) (passed : ℕ → Bool) (e : Edge) → Contains es e → e.to ≡ i → ((v : ℕ) → passed v ≡ true → Path es i v) →
      (v : ℕ) → passed_too i passed v ≡ true → Path es e.from v
  unfolding passed_too
  passed_path i passed e c to paths v h = elim (or_cases (v == i) (passed v) h) [
    | inl s ↦ last e c refl (to ∙ sym (eqb-true v i s))
    | inr p ↦ first e c refl (subst (λ x. Path es x v) (sym to) (paths v p))
  ]

  not_passed : (i : ℕ) (passed : ℕ → Bool) (e : Edge) → Contains es e → e.to ≡ i → ((v : ℕ) → passed v ≡ true → Path es i v) → passed_too i passed e.from ≡ false
  not_passed i passed e c to paths = false_from_ne_true (passed_too i passed e.from) (λ h. acyclic e.from (passed_path i passed e c to paths e.from h))

  fewer_passed : (i : ℕ) (passed : ℕ → Bool) → i < n → passed i ≡ false → count_below (λ k. not (passed_too i passed k)) n + 1 ≤ count_below (λ k. not (passed k)) n
  unfolding passed_too
  fewer_passed i passed h f = fewer_below (λ k. not (passed_too i passed k)) (λ k. not (passed k))
      (λ k t. not_from_false (passed k) (fresh (k == i) (passed k) t)) n i h
      (not_from_true (passed_too i passed i) (or_left (i == i) (passed i) (eq-eqb i i refl))) (not_from_false (passed i) f)
    where
      fresh : (a b : Bool) → not (a || b) ≡ true → b ≡ false
      fresh true b t = absurd (true≢false (sym t))
      fresh false true t = absurd (true≢false (sym t))
      fresh false false t = refl

  walk : (m : ℕ) (passed : ℕ → Bool) (i : ℕ) → count_below (λ k. not (passed k)) n ≤ m → passed i ≡ false → i < n → ended i ≡ false →
      ((v : ℕ) → passed v ≡ true → Path es i v) → ReadyOrNever es n never ended i
  walk zero passed i few f h left paths = let one : 1 ≤ count_below (λ k. not (passed k)) n = some_below (λ k. not (passed k)) n i h (not_from_false (passed i) f) in absurd (omega arith)
  walk (suc m) passed i few f h left paths = elim (cases_Bool (never i)) [
    | inl t ↦ inr (inl t)
    | inr comes ↦ elim (cases_Bool (list_all ended (from_into es i))) [
      | inl all ↦ inl (i, record { below = h; left = left; comes = comes; sources = source_passes es ended i all }, inl refl)
      | inr some ↦ (
          let s = source_fails es ended i some in
          let less : count_below (λ k. not (passed_too i passed k)) n + 1 ≤ count_below (λ k. not (passed k)) n = fewer_passed i passed h f in
          let r : ReadyOrNever es n never ended s.0.from = walk m (passed_too i passed) s.0.from (omega arith) (not_passed i passed s.0 s.1 s.2 paths) (in_range s.0 s.1) s.3 (passed_path i passed s.0 s.1 s.2 paths) in
          subst (λ x. ReadyOrNever es n never ended x) s.2 (onward s.0 s.1 r))
    ]
  ]

  -- each line that has not ended has a ready line before it, or one that never comes
  pub ready_or_never : (i : ℕ) → i < n → ended i ≡ false → ReadyOrNever es n never ended i
  ready_or_never i h left = walk n (λ k. false) i (count_below-max (λ k. not false) n) refl h left (λ v t. absurd (true≢false (sym t)))
