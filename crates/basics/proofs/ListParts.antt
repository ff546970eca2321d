-- The first elements of a list, a list with one more element at its end, and its parts.
use Rattle.std.proofs.Common.{◌≡◌, ℕ, zero, suc, ◌+◌, ◌≤◌, Bool, true, false, ◌||◌, List, [], ◌∷◌, ◌++◌, length, map, take, drop, refl, sym, ◌∙◌, ap, add-one, arith, ◌<◌, ◌⊎◌, inl, inr, subst, get_or}
use Rattle.std.specs.Prelude.{Some, None, slice_get, Contains, slice_index_or, flat_map}
use Rattle.std.specs.List.{list_any}
use Rattle.std.proofs.lemmas.Bool.{true≢false}
use Rattle.std.proofs.lemmas.Option.{none-some, same_Some}
use Rattle.basics.proofs.ListFacts.{got_contains, passes_some, contains_cases, contains_none, contains_here, contains_there}
use Rattle.basics.proofs.TestedLists.{any_map}

take_suc : {X : Type 0} (xs : List X) (k : ℕ) (x : X) → slice_get xs k ≡ Some x → take (suc k) xs ≡ take k xs ++ x ∷ []
take_suc [] k x h = absurd (none-some x h)
take_suc (y ∷ ys) zero x h = ap (λ z. z ∷ []) (same_Some y x h)
take_suc (y ∷ ys) (suc k) x h = ap (λ zs. y ∷ zs) (take_suc ys k x h)

pub take_more : {X : Type 0} (xs : List X) (k : ℕ) (x : X) → slice_get xs k ≡ Some x → take (k + 1) xs ≡ take k xs ++ x ∷ []
take_more xs k x h = ap (λ n. take n xs) (let e : k + 1 ≡ suc k = add-one k in e) ∙ take_suc xs k x h

pub take_whole : {X : Type 0} (xs : List X) (k : ℕ) → length xs ≤ k → take k xs ≡ xs
take_whole [] zero h = refl
take_whole [] (suc k) h = refl
take_whole (x ∷ xs) zero h = absurd (omega arith)
take_whole (x ∷ xs) (suc k) h = ap (λ zs. x ∷ zs) (take_whole xs k (let g : suc (length xs) ≤ suc k = h in omega arith))

pub got_beyond : {X : Type 0} (xs : List X) (k : ℕ) → slice_get xs k ≡ None → length xs ≤ k
got_beyond [] k h = omega arith
got_beyond (x ∷ xs) zero h = absurd (none-some x (sym h))
got_beyond (x ∷ xs) (suc k) h = let b : length xs ≤ k = got_beyond xs k h in omega arith

any_push : {X : Type 0} (t : X → Bool) (xs : List X) (x : X) → list_any t xs ≡ false → t x ≡ false → list_any t (xs ++ x ∷ []) ≡ false
any_push t [] x h f = ap (λ b. b || false) f
any_push t (y ∷ ys) x h f = by (t y) (list_any t ys) _ h (λ e. any_push t ys x e f)
  where
    by : (a b c : Bool) → (a || b) ≡ false → (b ≡ false → c ≡ false) → (a || c) ≡ false
    by true b c h again = absurd (true≢false h)
    by false b c h again = again h

-- a test that none of the first elements passes, nor the next
pub any_more : {X : Type 0} (t : X → Bool) (xs : List X) (k : ℕ) (x : X) → slice_get xs k ≡ Some x → list_any t (take k xs) ≡ false → t x ≡ false → list_any t (take (k + 1) xs) ≡ false
any_more t xs k x at h f = ap (list_any t) (take_more xs k x at) ∙ any_push t (take k xs) x h f

pub any_found : {X : Type 0} (t : X → Bool) (xs : List X) (k : ℕ) (x : X) → slice_get xs k ≡ Some x → t x ≡ true → list_any t xs ≡ true
any_found t xs k x at h = passes_some t xs x (got_contains xs k x at) h

-- the same of what the elements are mapped to
pub any_map_more : {X Y : Type 0} (t : Y → Bool) (f : X → Y) (xs : List X) (k : ℕ) (x : X) → slice_get xs k ≡ Some x → list_any t (map f (take k xs)) ≡ false → t (f x) ≡ false → list_any t (map f (take (k + 1) xs)) ≡ false
any_map_more t f xs k x at h g = any_map t f (take (k + 1) xs) ∙ any_more (λ x. t (f x)) xs k x at (sym (any_map t f (take k xs)) ∙ h) g

pub drop_at : {X : Type 0} (xs : List X) (k : ℕ) (x : X) → slice_get xs k ≡ Some x → drop k xs ≡ x ∷ drop (suc k) xs
drop_at [] k x h = absurd (none-some x h)
drop_at (y ∷ ys) zero x h = ap (λ z. z ∷ ys) (same_Some y x h)
drop_at (y ∷ ys) (suc k) x h = drop_at ys k x h

-- parts of a list are in the list
pub take_within : {X : Type 0} (n : ℕ) (xs : List X) (x : X) → Contains (take n xs) x → Contains xs x
take_within zero xs x c = absurd (contains_none x c)
take_within (suc n) [] x c = absurd (contains_none x c)
take_within (suc n) (y ∷ ys) x c = elim (contains_cases y (take n ys) x c) [
  | inl same ↦ subst (λ z. Contains (y ∷ ys) z) same (contains_here y ys)
  | inr rest ↦ contains_there y ys x (take_within n ys x rest)
]

pub drop_within : {X : Type 0} (n : ℕ) (xs : List X) (x : X) → Contains (drop n xs) x → Contains xs x
drop_within zero xs x c = c
drop_within (suc n) [] x c = absurd (contains_none x c)
drop_within (suc n) (y ∷ ys) x c = contains_there y ys x (drop_within n ys x c)

-- an element of a list is among the first n, or among the rest
pub split_cases : {X : Type 0} (n : ℕ) (xs : List X) (x : X) → Contains xs x → Contains (take n xs) x ⊎ Contains (drop n xs) x
split_cases zero xs x c = inr c
split_cases (suc n) [] x c = absurd (contains_none x c)
split_cases (suc n) (y ∷ ys) x c = elim (contains_cases y ys x c) [
  | inl same ↦ inl (subst (λ z. Contains (y ∷ take n ys) z) same (contains_here y (take n ys)))
  | inr rest ↦ elim (split_cases n ys x rest) [ inl a ↦ inl (contains_there y (take n ys) x a) | inr b ↦ inr b ]
]

-- a place in a list with one more at its end
pub got_left : {X : Type 0} (xs : List X) (y : X) (k : ℕ) → k < length xs → slice_get (xs ++ y ∷ []) k ≡ slice_get xs k
got_left [] y k h = absurd (omega arith)
got_left (x ∷ xs) y zero h = refl
got_left (x ∷ xs) y (suc k) h = got_left xs y k (let g : suc k < suc (length xs) = h in omega arith)

pub got_end : {X : Type 0} (xs : List X) (y : X) → slice_get (xs ++ y ∷ []) (length xs) ≡ Some y
got_end [] y = refl
got_end (x ∷ xs) y = got_end xs y

pub at_left : {X : Type 0} (xs : List X) (y d : X) (j : ℕ) → j < length xs → slice_index_or (xs ++ y ∷ []) j d ≡ slice_index_or xs j d
at_left [] y d j h = absurd (omega arith)
at_left (x ∷ xs) y d zero h = refl
at_left (x ∷ xs) y d (suc j) h = at_left xs y d j (let g : suc j < suc (length xs) = h in omega arith)

pub at_end : {X : Type 0} (xs : List X) (y d : X) → slice_index_or (xs ++ y ∷ []) (length xs) d ≡ y
at_end [] y d = refl
at_end (x ∷ xs) y d = at_end xs y d

-- what stands in a list with one more at its end, and where
got_cases_by : {X : Type 0} (xs : List X) (y : X) (k : ℕ) (x : X) → slice_get (xs ++ y ∷ []) k ≡ Some x → ((k < length xs) × (slice_get xs k ≡ Some x)) ⊎ ((k ≡ length xs) × (y ≡ x))
got_cases_by [] y zero x h = inr (refl, same_Some y x h)
got_cases_by [] y (suc k) x h = absurd (none-some x h)
got_cases_by (z ∷ xs) y zero x h = inl (omega arith, h)
got_cases_by (z ∷ xs) y (suc k) x h = elim (got_cases_by xs y k x h) [
  | inl a ↦ inl ((let b : k < length xs = a.0 in omega arith), a.1)
  | inr b ↦ inr (ap suc b.0, b.1)
]

pub got_cases : {X : Type 0} (xs : List X) (y : X) (k : ℕ) (x : X) → slice_get (xs ++ y ∷ []) k ≡ Some x → ((k < length xs) × (slice_get xs k ≡ Some x)) ⊎ ((k ≡ length xs) × (y ≡ x))
got_cases xs y k x h = got_cases_by xs y k x h

-- the images of the elements from a place on, joined
pub flat_next : {X : Type 0} (f : X → List ℕ) (xs : List X) (i : ℕ) (d : X) → i < length xs → flat_map f (drop i xs) ≡ f (get_or xs i d) ++ flat_map f (drop (i + 1) xs)
flat_next f [] i d h = absurd (omega arith)
flat_next f (x ∷ xs) zero d h = refl
flat_next f (x ∷ xs) (suc i) d h = flat_next f xs i d (omega arith) ∙ ap (λ n. f (get_or xs i d) ++ flat_map f (drop n (x ∷ xs))) (let e : suc (i + 1) ≡ suc i + 1 = omega arith in e)

pub flat_at : {X : Type 0} (f : X → List ℕ) (xs : List X) (i : ℕ) (x : X) → slice_get xs i ≡ Some x → flat_map f (drop i xs) ≡ f x ++ flat_map f (drop (i + 1) xs)
flat_at f [] i x h = absurd (none-some x h)
flat_at f (y ∷ ys) zero x h = ap (λ z. f z ++ flat_map f ys) (same_Some y x h)
flat_at f (y ∷ ys) (suc i) x h = flat_at f ys i x h ∙ ap (λ n. f x ++ flat_map f (drop n (y ∷ ys))) (let e : suc (i + 1) ≡ suc i + 1 = omega arith in e)

pub flat_over : {X : Type 0} (f : X → List ℕ) (xs : List X) (i : ℕ) → length xs ≤ i → flat_map f (drop i xs) ≡ []
flat_over f [] zero h = refl
flat_over f [] (suc i) h = refl
flat_over f (x ∷ xs) zero h = absurd (omega arith)
flat_over f (x ∷ xs) (suc i) h = flat_over f xs i (omega arith)

pub flat_item : {X : Type 0} (f : X → List ℕ) (xs : List X) (i : ℕ) (x : X) → i < length xs → x ≡ get_or xs i x → flat_map f (drop i xs) ≡ f x ++ flat_map f (drop (i + 1) xs)
flat_item f xs i x h e = flat_next f xs i x h ∙ ap (λ y. f y ++ flat_map f (drop (i + 1) xs)) (sym e)
