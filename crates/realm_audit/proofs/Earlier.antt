-- What stands in a list before a place.
use Rattle.std.proofs.Common.{◌≡◌, ℕ, zero, suc, ◌+◌, ◌<◌, ◌≤◌, ◌⊎◌, inl, inr, List, length, sym, ◌∙◌, ap, arith}
use Rattle.std.specs.Prelude.{Contains, Option, Some, None, slice_get}
use Rattle.std.proofs.lemmas.Bool.{cases_eq, cases_lt}
use Rattle.std.proofs.lemmas.Option.{none-some, same_Some, slice_get-get_or}
use Rattle.basics.proofs.ListFacts.{got_contains}
use Rattle.realm_audit.specs.Lawful.{StandsEarlier}

pub earlier_none : {X : Type 0} (xs : List X) (x : X) → StandsEarlier xs 0 x → ⊥
earlier_none xs x s = (let h : s.0 < 0 = s.1 in absurd (omega arith))

pub earlier_by : {X : Type 0} (xs : List X) (k m : ℕ) (x : X) → k ≤ m → StandsEarlier xs k x → StandsEarlier xs m x
earlier_by xs k m x h s = (let b : s.0 < k = s.1 in (s.0, omega arith, s.2))

-- one place more
pub earlier_more : {X : Type 0} (xs : List X) (k : ℕ) (x : X) → StandsEarlier xs k x → StandsEarlier xs (k + 1) x
earlier_more xs k x s = earlier_by xs k (k + 1) x (omega arith) s

pub earlier_here : {X : Type 0} (xs : List X) (k : ℕ) (x : X) → slice_get xs k ≡ Some x → StandsEarlier xs (k + 1) x
earlier_here xs k x at = (k, omega arith, at)

pub earlier_cases : {X : Type 0} (xs : List X) (k : ℕ) (x y : X) → slice_get xs k ≡ Some x → StandsEarlier xs (k + 1) y → (x ≡ y) ⊎ StandsEarlier xs k y
earlier_cases xs k x y at s =
    let b : s.0 < k + 1 = s.1 in
    elim (cases_lt s.0 k) [
      | inl l ↦ inr (s.0, l, s.2)
      | inr up ↦ inl (let same : s.0 ≡ k = omega arith in same_Some x y (sym at ∙ (ap (slice_get xs) (sym same) ∙ s.2)))
    ]

-- a number stands before a place, or it does not
here_or_not : (o : Option ℕ) (j : ℕ) → (o ≡ Some j) ⊎ (o ≡ Some j → ⊥)
here_or_not None j = inr (λ e. none-some j e)
here_or_not (Some i) j = elim (cases_eq i j) [ inl e ↦ inl (ap Some e) | inr n ↦ inr (λ e. n (same_Some i j e)) ]

pub earlier_or_not : (trace : List ℕ) (k j : ℕ) → StandsEarlier trace k j ⊎ (StandsEarlier trace k j → ⊥)
earlier_or_not trace zero j = inr (earlier_none trace j)
earlier_or_not trace (suc k) j = elim (earlier_or_not trace k j) [
  | inl s ↦ inl (earlier_by trace k (suc k) j (omega arith) s)
  | inr none ↦ elim (here_or_not (slice_get trace k) j) [
    | inl at ↦ inl (k, omega arith, at)
    | inr other ↦ inr (λ s. (let b : s.0 < suc k = s.1 in elim (cases_lt s.0 k) [
      | inl l ↦ none (s.0, l, s.2)
      | inr up ↦ other (let same : k ≡ s.0 = omega arith in ap (slice_get trace) same ∙ s.2)
    ]))
  ]
]

-- before the end of a list stand its items
pub earlier_listed : {X : Type 0} (xs : List X) (k : ℕ) (y : X) → StandsEarlier xs k y → Contains xs y
earlier_listed xs k y s = got_contains xs s.0 y s.2

pub listed_earlier : {X : Type 0} (xs : List X) (y : X) → Contains xs y → StandsEarlier xs (length xs) y
listed_earlier xs y c = (c.0, c.1, slice_get-get_or xs c.0 y c.1 ∙ ap Some c.2)
