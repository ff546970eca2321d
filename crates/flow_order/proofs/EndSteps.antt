-- Spaces that end before others begin.
use Rattle.std.proofs.Common.{◌≡◌, ℕ, ◌+◌, ◌<◌, ◌≤◌, min, max, true, false, inl, inr, List, [], ◌∷◌, take, ap, subst, arith}
use Rattle.std.specs.Prelude.{Contains, Some, slice_get, nat_lt, nat_le}
use Rattle.std.specs.List.{list_any}
use Rattle.std.proofs.lemmas.Bool.{false_from_ne_true, and_parts, or_cases, leb-true, ltb-true}
use Rattle.std.proofs.lemmas.List.Elements.{Contains-append_cases}
use Rattle.basics.proofs.ListFacts.{contains_cases, contains_none, some_passes}
use Rattle.index_spaces.specs.Space.{has_point, points, interval_has}
use Rattle.index_spaces.specs.Laws.{PointsAreListed}
use Rattle.flow_order.specs.Ends.{AreEnds, are_apart}
use Rattle.flow_order.specs.declared.ends.Ends.{Ends}
use Rattle.basics.proofs.ListParts.{take_more}

-- these intervals lie within
abbrev pub AreWithin : List (ℕ × ℕ) → ℕ → ℕ → Type 0
AreWithin s low high = (i : ℕ × ℕ) → Contains s i → (low ≤ i.0) × (i.1 ≤ high)

pub within_more : (s : List (ℕ × ℕ)) (k : ℕ) (i : ℕ × ℕ) (low high low' high' : ℕ) → slice_get s k ≡ Some i → low' ≡ min low i.0 → high' ≡ max high i.1 → AreWithin (take k s) low high → AreWithin (take (k + 1) s) low' high'
within_more s k i low high low' high' at l h are j c = elim (Contains-append_cases (take k s) (i ∷ []) j (subst (λ xs. Contains xs j) (take_more s k i at) c)) [
  | inl old ↦ (let a = are j old in let b : low ≤ j.0 = a.0 in let d : j.1 ≤ high = a.1 in (omega arith, omega arith))
  | inr new ↦ elim (contains_cases i [] j new) [
    | inl same ↦ (let a : i.0 ≡ j.0 = ap (λ (x : ℕ × ℕ). x.0) same in let b : i.1 ≡ j.1 = ap (λ (x : ℕ × ℕ). x.1) same in (omega arith, omega arith))
    | inr none ↦ absurd (contains_none j none)
  ]
]

pub ends_from : (s : List (ℕ × ℕ)) (e : Ends) → AreWithin s e.low e.high → AreEnds s e
ends_from s e are p h =
    let i = some_passes (λ i. interval_has i p) s h in
    let both = and_parts (nat_le (i.0).0 p) (nat_le p (i.0).1) i.2 in
    let w = are i.0 i.1 in
    let a : e.low ≤ (i.0).0 = w.0 in
    let b : (i.0).1 ≤ e.high = w.1 in
    let c : (i.0).0 ≤ p = leb-true (i.0).0 p both.0 in
    let d : p ≤ (i.0).1 = leb-true p (i.0).1 both.1 in
    (omega arith, omega arith)

-- spaces that are apart have no point in common
pub apart_none : PointsAreListed → (s t : List (ℕ × ℕ)) (d e : Ends) → AreEnds s d → AreEnds t e → are_apart d e ≡ true → list_any (has_point s) (points t) ≡ false
apart_none listed s t d e one other apart = false_from_ne_true (list_any (has_point s) (points t)) (λ h.
    let p = some_passes (has_point s) (points t) h in
    let a = one p.0 p.2 in
    let b = other p.0 ((listed t p.0).0 p.1) in
    let a0 : d.low ≤ p.0 = a.0 in
    let a1 : p.0 ≤ d.high = a.1 in
    let b0 : e.low ≤ p.0 = b.0 in
    let b1 : p.0 ≤ e.high = b.1 in
    elim (or_cases (nat_lt d.high e.low) (nat_lt e.high d.low) apart) [
      | inl before ↦ (let x : d.high < e.low = ltb-true d.high e.low before in absurd (omega arith))
      | inr behind ↦ (let x : e.high < d.low = ltb-true e.high d.low behind in absurd (omega arith))
    ])
