-- What the first misplaced pair is, and that pairs with none ascend.
use Rattle.std.proofs.Common.{◌≡◌, ◌≢◌, ◌↔◌, ◌⊎◌, ◌≤◌, ◌-◌, ℕ, zero, suc, ap, ◌+◌, ◌^◌, ◌<◌, ◌≤◌, List, [], ◌∷◌, length, get_or, drop, Option, Some, None, sym, ◌∙◌, inl, inr, refl, arith}
use Rattle.std.proofs.lemmas.Bool.{cases_lt, cond-true, cond-false, lt-ltb, le-ltb}
use Rattle.std.proofs.lemmas.List.{at_drop_more}
use Rattle.std.proofs.lemmas.List.Elements.{All-head, All-tail}
use Rattle.std.specs.List.{All}
use Rattle.index_spaces.specs.declared.limits.SpaceLimits.{SpaceLimits}
use Rattle.index_spaces.specs.declared.space.SpaceFault.{SpaceFault}
use Rattle.index_spaces.specs.declared.space.SpaceFault.TheVariants.{Reversed, Order, Many, Large, NoMemory}
use Rattle.index_spaces.specs.Space.{AscendAbove, space_size}
use Rattle.index_spaces.specs.Laws.{FaultlessPairs, ReversedIsFirst, OrderIsFirst, IsInPlace, pair_at}
use Rattle.index_spaces.specs.SpaceFault.{first_misplaced, too_large, or_too_large, space_fault_in}

pub first_misplaced-reversed : (k low : ℕ) (i : ℕ × ℕ) (s : List (ℕ × ℕ)) → i.1 < i.0 → first_misplaced k low (i ∷ s) ≡ Some (Reversed k)
first_misplaced-reversed k low i s h = cond-true _ _ _ (lt-ltb i.1 i.0 h)

pub first_misplaced-low : (k low : ℕ) (i : ℕ × ℕ) (s : List (ℕ × ℕ)) → i.0 ≤ i.1 → i.0 < low → first_misplaced k low (i ∷ s) ≡ Some (Order k)
first_misplaced-low k low i s u h = cond-false _ _ _ (le-ltb i.1 i.0 u) ∙ cond-true _ _ _ (lt-ltb i.0 low h)

pub first_misplaced-later : (k low : ℕ) (i : ℕ × ℕ) (s : List (ℕ × ℕ)) → i.0 ≤ i.1 → low ≤ i.0 → first_misplaced k low (i ∷ s) ≡ first_misplaced (k + 1) (i.1 + 2) s
first_misplaced-later k low i s u h = cond-false _ _ _ (le-ltb i.1 i.0 u) ∙ cond-false _ _ _ (le-ltb i.0 low h)

-- pairs with none misplaced are ascending intervals
pub first_misplaced-none : (k low : ℕ) (s : List (ℕ × ℕ)) → first_misplaced k low s ≡ None → All (λ (i : ℕ × ℕ). i.1 < 2 ^ 32) s → AscendAbove low s
first_misplaced-none k low [] e w = tt
first_misplaced-none k low (i ∷ s) e w =
    elim (cases_lt i.1 i.0) [
      | inl h ↦ (let r = sym (first_misplaced-reversed k low i s h) ∙ e in cc)
      | inr u ↦ elim (cases_lt i.0 low) [
        | inl h ↦ (let r = sym (first_misplaced-low k low i s u h) ∙ e in cc)
        | inr h ↦ (
          h,
          u,
          All-head (λ (i : ℕ × ℕ). i.1 < 2 ^ 32) i s w,
          first_misplaced-none (k + 1) (i.1 + 2) s (sym (first_misplaced-later k low i s u h) ∙ e) (All-tail (λ (i : ℕ × ℕ). i.1 < 2 ^ 32) i s w),
        )
      ]
    ]

-- what the first misplaced pair of the rest is, from the next pair
pub rest-reversed : (k low : ℕ) (s : List (ℕ × ℕ)) → k < length s → (get_or s k (0, 0)).1 < (get_or s k (0, 0)).0 → first_misplaced k low (drop k s) ≡ Some (Reversed k)
rest-reversed k low s h r = at_drop_more (first_misplaced k low) s k (0, 0) h ∙ first_misplaced-reversed k low (get_or s k (0, 0)) (drop (k + 1) s) r

pub rest-low : (k low : ℕ) (s : List (ℕ × ℕ)) → k < length s → (get_or s k (0, 0)).0 ≤ (get_or s k (0, 0)).1 → (get_or s k (0, 0)).0 < low → first_misplaced k low (drop k s) ≡ Some (Order k)
rest-low k low s h u r = at_drop_more (first_misplaced k low) s k (0, 0) h ∙ first_misplaced-low k low (get_or s k (0, 0)) (drop (k + 1) s) u r

pub rest-later : (k low : ℕ) (s : List (ℕ × ℕ)) → k < length s → (get_or s k (0, 0)).0 ≤ (get_or s k (0, 0)).1 → low ≤ (get_or s k (0, 0)).0 →
    first_misplaced k low (drop k s) ≡ first_misplaced (k + 1) ((get_or s k (0, 0)).1 + 2) (drop (k + 1) s)
rest-later k low s h u r = at_drop_more (first_misplaced k low) s k (0, 0) h ∙ first_misplaced-later k low (get_or s k (0, 0)) (drop (k + 1) s) u r

pub space_fault-some : (m : SpaceLimits) (s : List (ℕ × ℕ)) → 0 < length s → space_fault_in m s ≡ or_too_large m (first_misplaced 0 0 s) s
space_fault-some m [] h = absurd (omega arith)
space_fault-some m (i ∷ s) h = refl

-- want of memory is never what is wrong with pairs
first_misplaced-memory : (k low : ℕ) (s : List (ℕ × ℕ)) → first_misplaced k low s ≢ Some NoMemory
first_misplaced-memory k low [] e = cc
first_misplaced-memory k low (i ∷ s) e =
    elim (cases_lt i.1 i.0) [
      | inl h ↦ (let r = sym (first_misplaced-reversed k low i s h) ∙ e in cc)
      | inr u ↦ elim (cases_lt i.0 low) [
        | inl h ↦ (let r = sym (first_misplaced-low k low i s u h) ∙ e in cc)
        | inr h ↦ first_misplaced-memory (k + 1) (i.1 + 2) s (sym (first_misplaced-later k low i s u h) ∙ e)
      ]
    ]

too_large-memory : (m : SpaceLimits) (s : List (ℕ × ℕ)) → too_large m s ≢ Some NoMemory
too_large-memory m s e =
    elim (cases_lt m.intervals (length s)) [
      | inl h ↦ (let r = sym (cond-true _ _ _ (lt-ltb m.intervals (length s) h)) ∙ e in cc)
      | inr u ↦ elim (cases_lt m.points (space_size s)) [
        | inl h ↦ (let r = sym (cond-false _ _ _ (le-ltb m.intervals (length s) u) ∙ cond-true _ _ _ (lt-ltb m.points (space_size s) h)) ∙ e in cc)
        | inr h ↦ (let r = sym (cond-false _ _ _ (le-ltb m.intervals (length s) u) ∙ cond-false _ _ _ (le-ltb m.points (space_size s) h)) ∙ e in cc)
      ]
    ]

or_too_large-memory : (m : SpaceLimits) (o : Option SpaceFault) (s : List (ℕ × ℕ)) → o ≢ Some NoMemory → or_too_large m o s ≢ Some NoMemory
or_too_large-memory m (Some f) s n e = n e
or_too_large-memory m None s n e = too_large-memory m s e

pub space_fault-memory : (m : SpaceLimits) (s : List (ℕ × ℕ)) → space_fault_in m s ≢ Some NoMemory
space_fault-memory m [] e = cc
space_fault-memory m (i ∷ s) e = or_too_large-memory m (first_misplaced 0 0 (i ∷ s)) (i ∷ s) (first_misplaced-memory 0 0 (i ∷ s)) e

-- ascending intervals have none misplaced
ascending-none : (k low : ℕ) (s : List (ℕ × ℕ)) → AscendAbove low s → first_misplaced k low s ≡ None
ascending-none k low [] a = refl
ascending-none k low (i ∷ s) a = first_misplaced-later k low i s a.1 a.0 ∙ ascending-none (k + 1) (i.1 + 2) s a.3

or_too_large-none : (m : SpaceLimits) (o : Option SpaceFault) (s : List (ℕ × ℕ)) → or_too_large m o s ≡ None → (o ≡ None) × (too_large m s ≡ None)
or_too_large-none m (Some f) s e = (e, absurd (let h : ⊥ = cc in h))
or_too_large-none m None s e = (refl, e)

too_large-none : (m : SpaceLimits) (s : List (ℕ × ℕ)) → (too_large m s ≡ None) ↔ ((length s ≤ m.intervals) × (space_size s ≤ m.points))
too_large-none m s = (
  λ e. elim (cases_lt m.intervals (length s)) [
    | inl h ↦ (let r = sym (cond-true _ _ _ (lt-ltb m.intervals (length s) h)) ∙ e in cc)
    | inr u ↦ elim (cases_lt m.points (space_size s)) [
      | inl h ↦ (let r = sym (cond-false _ _ _ (le-ltb m.intervals (length s) u) ∙ cond-true _ _ _ (lt-ltb m.points (space_size s) h)) ∙ e in cc)
      | inr h ↦ (u, h)
    ]
  ],
  λ h. cond-false _ _ _ (le-ltb m.intervals (length s) h.0) ∙ cond-false _ _ _ (le-ltb m.points (space_size s) h.1),
)

pub faultless_pairs : FaultlessPairs
faultless_pairs m [] w = (λ e. cc, λ h. absurd (let some : 0 < 0 = h.0.0 in omega arith))
faultless_pairs m (i ∷ s) w = (
  λ e. let parts = or_too_large-none m (first_misplaced 0 0 (i ∷ s)) (i ∷ s) e in let sizes = (too_large-none m (i ∷ s)).0 parts.1 in
      ((omega arith, first_misplaced-none 0 0 (i ∷ s) parts.0 w), sizes.0, sizes.1),
  λ h. ap (λ o. or_too_large m o (i ∷ s)) (ascending-none 0 0 (i ∷ s) h.0.1) ∙ (too_large-none m (i ∷ s)).1 (h.1, h.2),
)

-- where the interval at a place may begin
abbrev low_at : ℕ → List (ℕ × ℕ) → ℕ → ℕ
low_at low s zero = low
low_at low s (suc k) = (pair_at s k).1 + 2

low_at-cons : (low : ℕ) (i : ℕ × ℕ) (s : List (ℕ × ℕ)) (j : ℕ) → low_at low (i ∷ s) (suc j) ≡ low_at (i.1 + 2) s j
low_at-cons low i s zero = refl
low_at-cons low i s (suc j) = refl

-- the pair at a place is not reversed, and does not begin too low
abbrev InPlaceFrom : ℕ → List (ℕ × ℕ) → ℕ → Type 0
InPlaceFrom low s k = ((pair_at s k).0 ≤ (pair_at s k).1) × (low_at low s k ≤ (pair_at s k).0)

in_place-cons : (low : ℕ) (i : ℕ × ℕ) (s : List (ℕ × ℕ)) (k : ℕ) → i.0 ≤ i.1 → low ≤ i.0 → ((j : ℕ) → j < k → InPlaceFrom (i.1 + 2) s j) → (j : ℕ) → j < suc k → InPlaceFrom low (i ∷ s) j
in_place-cons low i s k u h rest zero l = (u, h)
in_place-cons low i s k u h rest (suc j) l = let later = rest j (omega arith) in (later.0, rw (low_at-cons low i s j) later.1)

in_place-from_zero : (s : List (ℕ × ℕ)) (j : ℕ) → InPlaceFrom 0 s j → IsInPlace s j
in_place-from_zero s zero h = (h.0, λ p. absurd (omega arith))
in_place-from_zero s (suc j) h = (h.0, λ p. let e : suc j - 1 ≡ j = omega arith in rw e h.1)

-- the place of the first pair that is not in place, the first having number m
record IsFirstAt (m n low : ℕ) (s : List (ℕ × ℕ)) (k : ℕ) : Type 0 where
  number : n ≡ m + k
  within : k < length s
  before : (j : ℕ) → j < k → InPlaceFrom low s j

first_cons : (m n low : ℕ) (i : ℕ × ℕ) (s : List (ℕ × ℕ)) (k : ℕ) → i.0 ≤ i.1 → low ≤ i.0 → IsFirstAt (m + 1) n (i.1 + 2) s k → IsFirstAt m n low (i ∷ s) (suc k)
first_cons m n low i s k u h rest = record {
  number = omega (arith, rest.number);
  within = omega (arith, rest.within);
  before = in_place-cons low i s k u h rest.before;
}

reversed_from : (m low : ℕ) (s : List (ℕ × ℕ)) (n : ℕ) → first_misplaced m low s ≡ Some (Reversed n) → (k : ℕ) × IsFirstAt m n low s k × ((pair_at s k).1 < (pair_at s k).0)
reversed_from m low [] n e = cc
reversed_from m low (i ∷ s) n e =
    elim (cases_lt i.1 i.0) [
      | inl h ↦ (
          let r = sym (first_misplaced-reversed m low i s h) ∙ e in
          let same : m ≡ n = cc in
          (0, record { number = omega arith; within = omega arith; before = λ j l. absurd (omega arith) }, h)
          )
      | inr u ↦ elim (cases_lt i.0 low) [
        | inl h ↦ (let r = sym (first_misplaced-low m low i s u h) ∙ e in cc)
        | inr h ↦ (
            let rest = reversed_from (m + 1) (i.1 + 2) s n (sym (first_misplaced-later m low i s u h) ∙ e) in
            (suc rest.0, first_cons m n low i s rest.0 u h rest.1, rest.2)
            )
      ]
    ]

order_from : (m low : ℕ) (s : List (ℕ × ℕ)) (n : ℕ) → first_misplaced m low s ≡ Some (Order n) →
    (k : ℕ) × IsFirstAt m n low s k × ((pair_at s k).0 ≤ (pair_at s k).1) × ((pair_at s k).0 < low_at low s k)
order_from m low [] n e = cc
order_from m low (i ∷ s) n e =
    elim (cases_lt i.1 i.0) [
      | inl h ↦ (let r = sym (first_misplaced-reversed m low i s h) ∙ e in cc)
      | inr u ↦ elim (cases_lt i.0 low) [
        | inl h ↦ (
            let r = sym (first_misplaced-low m low i s u h) ∙ e in
            let same : m ≡ n = cc in
            (0, record { number = omega arith; within = omega arith; before = λ j l. absurd (omega arith) }, u, h)
            )
        | inr h ↦ (
            let rest = order_from (m + 1) (i.1 + 2) s n (sym (first_misplaced-later m low i s u h) ∙ e) in
            (suc rest.0, first_cons m n low i s rest.0 u h rest.1, rest.2, rw (low_at-cons low i s rest.0) rest.3)
            )
      ]
    ]

-- neither too many pairs nor too many points are reported as a misplaced pair
too_large-cases : (m : SpaceLimits) (s : List (ℕ × ℕ)) (f : SpaceFault) → too_large m s ≡ Some f → (f ≡ Many) ⊎ (f ≡ Large)
too_large-cases m s f e =
    elim (cases_lt m.intervals (length s)) [
      | inl h ↦ inl (let r = sym (cond-true _ _ _ (lt-ltb m.intervals (length s) h)) ∙ e in cc)
      | inr u ↦ elim (cases_lt m.points (space_size s)) [
        | inl h ↦ inr (let r = sym (cond-false _ _ _ (le-ltb m.intervals (length s) u) ∙ cond-true _ _ _ (lt-ltb m.points (space_size s) h)) ∙ e in cc)
        | inr h ↦ (let r = sym (cond-false _ _ _ (le-ltb m.intervals (length s) u) ∙ cond-false _ _ _ (le-ltb m.points (space_size s) h)) ∙ e in cc)
      ]
    ]

misplaced_only : (m : SpaceLimits) (o : Option SpaceFault) (s : List (ℕ × ℕ)) (f : SpaceFault) → f ≢ Many → f ≢ Large → or_too_large m o s ≡ Some f → o ≡ Some f
misplaced_only m (Some g) s f a b e = e
misplaced_only m None s f a b e = elim (too_large-cases m s f e) [ inl x ↦ absurd (a x) | inr x ↦ absurd (b x) ]

pub reversed_is_first : ReversedIsFirst
reversed_is_first m [] k e = cc
reversed_is_first m (i ∷ s) k e =
    let found = reversed_from 0 0 (i ∷ s) k (misplaced_only m (first_misplaced 0 0 (i ∷ s)) (i ∷ s) (Reversed k) (λ x. cc) (λ x. cc) e) in
    let same : k ≡ found.0 = omega (arith, found.1.number) in
    rw same (found.1.within, λ j l. in_place-from_zero (i ∷ s) j (found.1.before j l), found.2)

low_at-above : (s : List (ℕ × ℕ)) (k : ℕ) → (pair_at s k).0 < low_at 0 s k → (0 < k) × ((pair_at s k).0 < (pair_at s (k - 1)).1 + 2)
low_at-above s zero h = absurd (omega arith)
low_at-above s (suc k) h = (omega arith, let e : suc k - 1 ≡ k = omega arith in rw e h)

pub order_is_first : OrderIsFirst
order_is_first m [] k e = cc
order_is_first m (i ∷ s) k e =
    let found = order_from 0 0 (i ∷ s) k (misplaced_only m (first_misplaced 0 0 (i ∷ s)) (i ∷ s) (Order k) (λ x. cc) (λ x. cc) e) in
    let same : k ≡ found.0 = omega (arith, found.1.number) in
    let low = low_at-above (i ∷ s) found.0 found.3 in
    rw same (found.1.within, λ j l. in_place-from_zero (i ∷ s) j (found.1.before j l), found.2, low.0, low.1)
