-- Lists whose elements pass a test or have each what is said of them, where an element is found, and equal bytes.
use Rattle.std.proofs.Common.{◌≡◌, ℕ, zero, suc, ◌+◌, ◌<◌, Bool, true, false, cond, not, ◌||◌, List, [], ◌∷◌, ◌++◌, length, map, refl, sym, ◌∙◌, ap, subst, arith}
use Rattle.std.specs.Prelude.{Contains, Option, Some, None, position, bytes_eq, filter_map, slice_get, unwrap_or, nat_lt, is_some, option_map, find}
use Rattle.std.specs.List.{list_any, position_or_len, AllByRecursion, cons_option}
use Rattle.std.proofs.lemmas.Bool.{true≢false, or_parts, or_from, cond-true, lt-ltb, false_from_ne_true, cond-false, le-ltb, not_from_false}
use Rattle.std.proofs.lemmas.Option.{none-some, same_Some}
use Rattle.std.proofs.lemmas.Slice.Eq.{bytes_eq-Decides}

-- equal bytes
pub same_bytes : (a b : List ℕ) → bytes_eq a b ≡ true → a ≡ b
same_bytes a b h = (bytes_eq-Decides a b).0 h

pub bytes_same : (a b : List ℕ) → a ≡ b → bytes_eq a b ≡ true
bytes_same a b e = (bytes_eq-Decides a b).1 e

pub bytes_differ : (a b : List ℕ) → bytes_eq a b ≡ false → bytes_eq b a ≡ false
bytes_differ a b h = false_from_ne_true (bytes_eq b a) (λ e. true≢false (sym (bytes_same a b (sym (same_bytes b a e))) ∙ h))

-- tests over joined lists
pub any_left : {X : Type 0} (t : X → Bool) (xs ys : List X) → list_any t (xs ++ ys) ≡ false → list_any t xs ≡ false
any_left t [] ys h = refl
any_left t (x ∷ xs) ys h = let p = or_parts (t x) (list_any t (xs ++ ys)) h in or_from (t x) (list_any t xs) p.0 (any_left t xs ys p.1)

pub any_right : {X : Type 0} (t : X → Bool) (xs ys : List X) → list_any t (xs ++ ys) ≡ false → list_any t ys ≡ false
any_right t [] ys h = h
any_right t (x ∷ xs) ys h = any_right t xs ys (or_parts (t x) (list_any t (xs ++ ys)) h).1

pub any_append : {X : Type 0} (t : X → Bool) (xs ys : List X) → list_any t xs ≡ false → list_any t ys ≡ false → list_any t (xs ++ ys) ≡ false
any_append t [] ys h k = k
any_append t (x ∷ xs) ys h k = let p = or_parts (t x) (list_any t xs) h in or_from (t x) (list_any t (xs ++ ys)) p.0 (any_append t xs ys p.1 k)

pub any_map : {X Y : Type 0} (t : Y → Bool) (f : X → Y) (xs : List X) → list_any t (map f xs) ≡ list_any (λ x. t (f x)) xs
any_map t f [] = refl
any_map t f (x ∷ xs) = ap (λ b. t (f x) || b) (any_map t f xs)

-- a test that no element passes
pub none_from_each : {X : Type 0} (t : X → Bool) (xs : List X) → AllByRecursion (λ x. t x ≡ false) xs → list_any t xs ≡ false
none_from_each t [] h = refl
none_from_each t (x ∷ xs) h = or_from (t x) (list_any t xs) h.0 (none_from_each t xs h.1)

pub each_from_none : {X : Type 0} (t : X → Bool) (xs : List X) → list_any t xs ≡ false → AllByRecursion (λ x. t x ≡ false) xs
each_from_none t [] h = tt
each_from_none t (x ∷ xs) h = let p = or_parts (t x) (list_any t xs) h in (p.0, each_from_none t xs p.1)

-- what holds of each element
pub each_contained : {X : Type 0} (P : X → Type 0) (xs : List X) → AllByRecursion P xs → (k : ℕ) (x : X) → slice_get xs k ≡ Some x → P x
each_contained P [] h k x e = absurd (none-some x e)
each_contained P (y ∷ ys) h zero x e = subst P (same_Some y x e) h.0
each_contained P (y ∷ ys) h (suc k) x e = each_contained P ys h.1 k x e

pub each_append : {X : Type 0} (P : X → Type 0) (xs ys : List X) → AllByRecursion P xs → AllByRecursion P ys → AllByRecursion P (xs ++ ys)
each_append P [] ys h k = k
each_append P (x ∷ xs) ys h k = (h.0, each_append P xs ys h.1 k)

pub each_weaker : {X : Type 0} (P Q : X → Type 0) → ((x : X) → P x → Q x) → (xs : List X) → AllByRecursion P xs → AllByRecursion Q xs
each_weaker P Q f [] h = tt
each_weaker P Q f (x ∷ xs) h = (f x h.0, each_weaker P Q f xs h.1)

pub each_map : {X Y : Type 0} (P : Y → Type 0) (f : X → Y) (xs : List X) → AllByRecursion (λ x. P (f x)) xs → AllByRecursion P (map f xs)
each_map P f [] h = tt
each_map P f (x ∷ xs) h = (h.0, each_map P f xs h.1)

pub within : {X : Type 0} (xs : List X) (k : ℕ) (x : X) → slice_get xs k ≡ Some x → k < length xs
within [] k x e = absurd (none-some x e)
within (y ∷ ys) zero x e = omega arith
within (y ∷ ys) (suc k) x e = let h : k < length ys = within ys k x e in omega arith

-- an element that passes is found, and it stands in its place
first_by : {X : Type 0} (t : X → Bool) (y : X) (ys : List X) (b : Bool) → t y ≡ b → (b || list_any t ys) ≡ true →
    (list_any t ys ≡ true → (x : X) × (slice_get ys (position_or_len t ys) ≡ Some x) × (t x ≡ true)) →
    (x : X) × (slice_get (y ∷ ys) (cond (not b) (1 + position_or_len t ys) 0) ≡ Some x) × (t x ≡ true)
first_by t y ys true e h again = (y, refl, e)
first_by t y ys false e h again = let r = again h in
    (r.0, subst (λ n. slice_get (y ∷ ys) n ≡ Some r.0) (let j : suc (position_or_len t ys) ≡ 1 + position_or_len t ys = omega arith in j) r.1, r.2)

pub first_is : {X : Type 0} (t : X → Bool) (xs : List X) → list_any t xs ≡ true → (x : X) × (slice_get xs (position_or_len t xs) ≡ Some x) × (t x ≡ true)
first_is t [] h = absurd (true≢false (sym h))
first_is t (y ∷ ys) h = first_by t y ys (t y) refl h (first_is t ys)

pub found_is : {X : Type 0} (t : X → Bool) (xs : List X) → list_any t xs ≡ true → (x : X) × (slice_get xs (unwrap_or (position t xs) 0) ≡ Some x) × (t x ≡ true)
found_is t xs h =
    let f = first_is t xs h in
    let l : position_or_len t xs < length xs = within xs (position_or_len t xs) f.0 f.1 in
    let at : unwrap_or (position t xs) 0 ≡ position_or_len t xs = ap (λ o. unwrap_or o 0) (cond-true (nat_lt (position_or_len t xs) (length xs)) (Some (position_or_len t xs)) None (lt-ltb (position_or_len t xs) (length xs) l)) in
    (f.0, subst (λ n. slice_get xs n ≡ Some f.0) (sym at) f.1, f.2)

-- the element of a filtered map
abbrev pub ComesFrom : {X Y : Type 0} → (X → Type 0) → (X → Option Y) → List X → Y → Type 0
ComesFrom {X} P f xs y = (z : X) × P z × (f z ≡ Some y) × Contains xs z

contains_next : {X : Type 0} (x : X) (xs : List X) (z : X) → Contains xs z → Contains (x ∷ xs) z
contains_next x xs z c = (suc c.0, (let l : c.0 < length xs = c.1 in omega arith), c.2)

comes_later : {X Y : Type 0} (P : X → Type 0) (f : X → Option Y) (x : X) (xs : List X) (y : Y) → ComesFrom P f xs y → ComesFrom P f (x ∷ xs) y
comes_later P f x xs y r = (r.0, r.1, r.2, contains_next x xs r.0 r.3)

mapped_by : {X Y : Type 0} (P : X → Type 0) (f : X → Option Y) (x : X) (xs : List X) → P x → (o : Option Y) → f x ≡ o → (k : ℕ) (y : Y) → slice_get (cons_option o (filter_map f xs)) k ≡ Some y →
    ((j : ℕ) → slice_get (filter_map f xs) j ≡ Some y → ComesFrom P f xs y) → ComesFrom P f (x ∷ xs) y
mapped_by P f x xs h None s k y e again = comes_later P f x xs y (again k e)
mapped_by P f x xs h (Some z) s zero y e again = (x, h, s ∙ e, (0, omega arith, refl))
mapped_by P f x xs h (Some z) s (suc k) y e again = comes_later P f x xs y (again k e)

pub mapped_from : {X Y : Type 0} (P : X → Type 0) (f : X → Option Y) (xs : List X) → AllByRecursion P xs → (k : ℕ) (y : Y) → slice_get (filter_map f xs) k ≡ Some y → ComesFrom P f xs y
mapped_from P f [] h k y e = absurd (none-some y e)
mapped_from P f (x ∷ xs) h k y e = mapped_by P f x xs h.0 (f x) refl k y e (λ j d. mapped_from P f xs h.1 j y d)

flip_by : (a b : List ℕ) (r s : Bool) → bytes_eq a b ≡ r → bytes_eq b a ≡ s → r ≡ s
flip_by a b true true e f = refl
flip_by a b false false e f = refl
flip_by a b true false e f = absurd (true≢false (sym (bytes_same b a (sym (same_bytes a b e))) ∙ f))
flip_by a b false true e f = absurd (true≢false (sym (bytes_same a b (sym (same_bytes b a f))) ∙ e))

pub bytes_flip : (a b : List ℕ) → bytes_eq a b ≡ bytes_eq b a
bytes_flip a b = flip_by a b (bytes_eq a b) (bytes_eq b a) refl refl

-- whether an element passes, and where the first one stands
position_none : {X : Type 0} (t : X → Bool) (xs : List X) → list_any t xs ≡ false → position_or_len t xs ≡ length xs
position_none t [] h = refl
position_none t (x ∷ xs) h =
    let p = or_parts (t x) (list_any t xs) h in
    let again : position_or_len t xs ≡ length xs = position_none t xs p.1 in
    cond-true (not (t x)) (1 + position_or_len t xs) 0 (not_from_false (t x) p.0) ∙ (let e : 1 + position_or_len t xs ≡ suc (length xs) = omega arith in e)

pub no_position : {X : Type 0} (t : X → Bool) (xs : List X) → list_any t xs ≡ false → position t xs ≡ None
no_position t xs h =
    let e : position_or_len t xs ≡ length xs = position_none t xs h in
    cond-false (nat_lt (position_or_len t xs) (length xs)) (Some (position_or_len t xs)) None (le-ltb (position_or_len t xs) (length xs) (omega arith))

any_by : {X : Type 0} (t : X → Bool) (xs : List X) (b : Bool) → list_any t xs ≡ b → b ≡ is_some (position t xs)
any_by t xs false h = sym (ap is_some (no_position t xs h))
any_by t xs true h =
    let f = first_is t xs h in
    let l : position_or_len t xs < length xs = within xs (position_or_len t xs) f.0 f.1 in
    sym (ap is_some (cond-true (nat_lt (position_or_len t xs) (length xs)) (Some (position_or_len t xs)) None (lt-ltb (position_or_len t xs) (length xs) l)))

pub position_any : {X : Type 0} (t : X → Bool) (xs : List X) → list_any t xs ≡ is_some (position t xs)
position_any t xs = any_by t xs (list_any t xs) refl

-- what a look for the first element finds passes, and such a look among images
pub found_passes : {X : Type 0} (p : X → Bool) (xs : List X) (x : X) → find p xs ≡ Some x → p x ≡ true
found_passes p [] x h = absurd (none-some x h)
found_passes p (y ∷ ys) x h = found_by p y ys x (p y) refl h (found_passes p ys x)
  where
    found_by : {X : Type 0} (p : X → Bool) (y : X) (ys : List X) (x : X) (b : Bool) → p y ≡ b → cond b (Some y) (find p ys) ≡ Some x → (find p ys ≡ Some x → p x ≡ true) → p x ≡ true
    found_by p y ys x true e h again = ap p (sym (same_Some y x h)) ∙ e
    found_by p y ys x false e h again = again h

find_by : {X Y : Type 0} (f : X → Y) (x : X) (o : Option X) (b : Bool) → cond b (Some (f x)) (option_map f o) ≡ option_map f (cond b (Some x) o)
find_by f x o true = refl
find_by f x o false = refl

pub find_mapped : {X Y : Type 0} (p : Y → Bool) (f : X → Y) (xs : List X) → find p (map f xs) ≡ option_map f (find (λ x. p (f x)) xs)
find_mapped p f [] = refl
find_mapped p f (x ∷ xs) = ap (cond (p (f x)) (Some (f x))) (find_mapped p f xs) ∙ find_by f x (find (λ y. p (f y)) xs) (p (f x))
