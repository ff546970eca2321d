-- Where numbers stand in a list: among its first items, and at which place first.
use Rattle.std.proofs.Common.{◌≡◌, ℕ, ◌<◌, ◌≤◌, false, ◌⊎◌, inl, inr, List, length, take, sym, ◌∙◌, subst, arith}
use Rattle.std.specs.Prelude.{◌==◌, Contains, slice_index}
use Rattle.std.specs.List.{slice_index_or, position_or_len}
use Rattle.std.proofs.lemmas.Bool.{true≢false, cases_lt, eq-eqb, eqb-true, ne_eqb}
use Rattle.std.proofs.lemmas.List.{get_or-take, length-take-le, take_all}
use Rattle.std.proofs.lemmas.List.Elements.{Contains-get_or}
use Rattle.std.proofs.lemmas.List.Sums.{fails_before_first, passes_at_first}
use Rattle.std.proofs.lemmas.Map.Keys.{IsDistinct-from_apart}
use Rattle.std.proofs.lemmas.Map.Steps.{length-le_from_distinct_below}
use Rattle.std.proofs.lemmas.Option.{same_Some, slice_get-get_or}
use Rattle.basics.proofs.ListFacts.{some_passes}

-- an item that is there does not depend on what is read past the end
item_is : (xs : List ℕ) (k d : ℕ) → k < length xs → slice_index_or xs k d ≡ slice_index xs k
item_is xs k d h = same_Some (slice_index_or xs k d) (slice_index xs k) (sym (slice_get-get_or xs k d h) ∙ slice_get-get_or xs k 0 h)

-- how long the first p items are
first_long : (xs : List ℕ) (p k : ℕ) → k < length (take p xs) → (k < p) × (k < length xs)
first_long xs p k h = elim (cases_lt (length xs) p) [
  | inl all ↦ (let b : k < length xs = subst (λ ys. k < length ys) (take_all p xs (omega arith)) h in (omega arith, b))
  | inr part ↦ (let b : k < p = subst (λ n. k < n) (length-take-le p xs part) h in (b, omega arith))
]

first_has : (xs : List ℕ) (p k : ℕ) → k < p → k < length xs → k < length (take p xs)
first_has xs p k a b = elim (cases_lt (length xs) p) [
  | inl all ↦ subst (λ ys. k < length ys) (sym (take_all p xs (omega arith))) b
  | inr part ↦ subst (λ n. k < n) (sym (length-take-le p xs part)) a
]

-- a number among the first p items stands at a place below p
pub contains_take : (xs : List ℕ) (p x : ℕ) → Contains (take p xs) x → (k : ℕ) × (k < p) × (k < length xs) × (slice_index xs k ≡ x)
contains_take xs p x c =
    let within = first_long xs p c.0 c.1 in
    (c.0, within.0, within.1, sym (item_is xs c.0 x within.1) ∙ (sym (get_or-take p xs c.0 x within.0) ∙ c.2))

pub take_contains : (xs : List ℕ) (p k : ℕ) → k < p → k < length xs → Contains (take p xs) (slice_index xs k)
take_contains xs p k a b = subst (Contains (take p xs)) (get_or-take p xs k 0 a) (Contains-get_or (take p xs) k 0 (first_has xs p k a b))

-- the place at which a number stands first
abbrev pub place : List ℕ → ℕ → ℕ
place xs x = position_or_len (λ y. y == x) xs

not_before : (xs : List ℕ) (x k : ℕ) → slice_index xs k ≡ x → k < place xs x → ⊥
not_before xs x k at h = true≢false (sym (eq-eqb (slice_index xs k) x at) ∙ fails_before_first (λ y. y == x) xs k 0 h)

pub place_before : (xs : List ℕ) (p x : ℕ) → Contains (take p xs) x → place xs x < p
place_before xs p x c =
    let k = contains_take xs p x c in
    let below : k.0 < p = k.1 in
    elim (cases_lt (place xs x) p) [ inl b ↦ b | inr past ↦ absurd (not_before xs x k.0 k.3 (omega arith)) ]

place_at : (xs : List ℕ) (x : ℕ) → place xs x < length xs → slice_index xs (place xs x) ≡ x
place_at xs x h = eqb-true (slice_index xs (place xs x)) x (passes_at_first (λ y. y == x) xs 0 h)

pub place_is : (xs : List ℕ) (x : ℕ) → Contains xs x → (place xs x < length xs) × (slice_index xs (place xs x) ≡ x)
place_is xs x c = (within, place_at xs x within)
  where
    within : place xs x < length xs
    within =
        let below : c.0 < length xs = c.1 in
        elim (cases_lt (place xs x) (length xs)) [ inl b ↦ b | inr past ↦ absurd (not_before xs x c.0 (sym (item_is xs c.0 x c.1) ∙ c.2) (omega arith)) ]

-- a number is in a list, or is not
pub listed_or_not : (xs : List ℕ) (x : ℕ) → Contains xs x ⊎ (Contains xs x → ⊥)
listed_or_not xs x = elim (cases_lt (place xs x) (length xs)) [
  | inl b ↦ inl (subst (Contains xs) (place_at xs x b) (Contains-get_or xs (place xs x) 0 b))
  | inr past ↦ inr (λ c. (let b : place xs x < length xs = (place_is xs x c).0 in absurd (omega arith)))
]

-- numbers below n, each at one place alone, are at most n
pub few_distinct : (xs : List ℕ) (n : ℕ) → ((a b : ℕ) → a < b → b < length xs → slice_index xs a ≡ slice_index xs b → ⊥) → ((x : ℕ) → Contains xs x → x < n) → length xs ≤ n
few_distinct xs n once below = length-le_from_distinct_below xs n (IsDistinct-from_apart (λ x y. x == y) xs apart) (λ q h. (let s = some_passes (λ y. q == y) xs h in below q (subst (Contains xs) (sym (eqb-true q s.0 s.2)) s.1)))
  where
    apart : (a b d : ℕ) → a < b → b < length xs → (slice_index_or xs a d == slice_index_or xs b d) ≡ false
    apart a b d order inside = ne_eqb (slice_index_or xs a d) (slice_index_or xs b d) (λ same. once a b order inside (sym (item_is xs a d (omega arith)) ∙ (same ∙ item_is xs b d inside)))
