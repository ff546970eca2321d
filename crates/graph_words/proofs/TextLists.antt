-- Facts on lists and tests that the laws of texts share.
use Rattle.std.proofs.Common.{◌≡◌, ℕ, zero, suc, ◌+◌, ◌<◌, Bool, true, false, cond, not, ◌||◌, List, [], ◌∷◌, ◌++◌, length, map, refl, ◌∙◌, ap, arith}
use Rattle.std.specs.Prelude.{Some, None, bytes_eq, slice_get, unwrap_or, nat_lt, is_some}
use Rattle.std.specs.List.{list_any, position_or_len, AllByRecursion}
use Rattle.std.proofs.lemmas.Bool.{true≢false, or_parts, or_from, not_from_true, not_from_false, cond-true, cond-false, lt-ltb}
use Rattle.std.proofs.lemmas.Option.{none-some, same_Some}
use Rattle.graph_terms.specs.Fits.{repeats, first_reason}
use Rattle.graph_terms.specs.declared.why.Why.{Why}
use Rattle.basics.proofs.TestedLists.{bytes_differ, any_left, any_append, any_map, each_from_none, each_contained, within}
use Rattle.graph_words.specs.Laws.{EachTestFails, NoReasonWhereEachFails, FoundInOwnPlace, NoneTwiceInFirst, NoneTwiceInSecond, NoneTwiceInBoth, NoneTwiceByImages, NoneTwiceWithAnother}

-- lists in which nothing stands twice
pub repeats_left : {X : Type 0} → NoneTwiceInFirst X
repeats_left eq [] ys h = refl
repeats_left eq (x ∷ xs) ys h = let p = or_parts (list_any (eq x) (xs ++ ys)) (repeats eq (xs ++ ys)) h in
    or_from (list_any (eq x) xs) (repeats eq xs) (any_left (eq x) xs ys p.0) (repeats_left eq xs ys p.1)

pub repeats_right : {X : Type 0} → NoneTwiceInSecond X
repeats_right eq [] ys h = h
repeats_right eq (x ∷ xs) ys h = repeats_right eq xs ys (or_parts (list_any (eq x) (xs ++ ys)) (repeats eq (xs ++ ys)) h).1

pub repeats_append : {X : Type 0} → NoneTwiceInBoth X
repeats_append eq [] ys h k c = k
repeats_append eq (x ∷ xs) ys h k c = let p = or_parts (list_any (eq x) xs) (repeats eq xs) h in
    or_from (list_any (eq x) (xs ++ ys)) (repeats eq (xs ++ ys)) (any_append (eq x) xs ys p.0 c.0) (repeats_append eq xs ys p.1 k c.1)

pub repeats_map : {X Y : Type 0} → NoneTwiceByImages X Y
repeats_map eq f [] = refl
repeats_map eq f (x ∷ xs) = ap (λ b. b || repeats eq (map f xs)) (any_map (eq (f x)) f xs) ∙ ap (λ b. list_any (λ y. eq (f x) (f y)) xs || b) (repeats_map eq f xs)

pub repeats_push : NoneTwiceWithAnother
repeats_push xs y h k = repeats_append bytes_eq xs (y ∷ []) h refl (others xs k)
  where
    others : (zs : List (List ℕ)) → list_any (bytes_eq y) zs ≡ false → AllByRecursion (λ x. list_any (bytes_eq x) (y ∷ []) ≡ false) zs
    others [] k = tt
    others (z ∷ zs) k = let p = or_parts (bytes_eq y z) (list_any (bytes_eq y) zs) k in (or_from (bytes_eq z y) false (bytes_differ y z p.0) refl, others zs p.1)

-- the first place of an element that stands nowhere before
unlike_at : {X : Type 0} (t : X → Bool) (xs : List X) (k : ℕ) (x : X) → list_any t xs ≡ false → slice_get xs k ≡ Some x → t x ≡ false
unlike_at t xs k x h e = each_contained (λ y. t y ≡ false) xs (each_from_none t xs h) k x e

pub place_of : {X : Type 0} (eq : X → X → Bool) (xs : List X) (k : ℕ) (x : X) → repeats eq xs ≡ false → slice_get xs k ≡ Some x → eq x x ≡ true → position_or_len (λ y. eq y x) xs ≡ k
place_of eq [] k x r e s = absurd (none-some x e)
place_of eq (y ∷ ys) zero x r e s =
    let here : eq y x ≡ true = ap (λ z. eq z x) (same_Some y x e) ∙ s in
    cond-false (not (eq y x)) (1 + position_or_len (λ z. eq z x) ys) 0 (not_from_true (eq y x) here)
place_of eq (y ∷ ys) (suc k) x r e s =
    let p = or_parts (list_any (eq y) ys) (repeats eq ys) r in
    let other : eq y x ≡ false = unlike_at (eq y) ys k x p.0 e in
    let again : position_or_len (λ z. eq z x) ys ≡ k = place_of eq ys k x p.1 e s in
    cond-true (not (eq y x)) (1 + position_or_len (λ z. eq z x) ys) 0 (not_from_false (eq y x) other) ∙ (let j : 1 + position_or_len (λ z. eq z x) ys ≡ suc k = omega arith in j)

pub found_of : {X : Type 0} → FoundInOwnPlace X
found_of eq xs k x r e s =
    let at : position_or_len (λ y. eq y x) xs ≡ k = place_of eq xs k x r e s in
    let l : k < length xs = within xs k x e in
    ap (λ o. unwrap_or o 0) (cond-true (nat_lt (position_or_len (λ y. eq y x) xs) (length xs)) (Some (position_or_len (λ y. eq y x) xs)) None (lt-ltb (position_or_len (λ y. eq y x) xs) (length xs) (omega arith))) ∙ at

-- the first reason is none
no_first_by : (b : Bool) (w : Why) (ts : List (Bool × Why)) → cond b (Some w) (first_reason ts) ≡ None → (b ≡ false) × (first_reason ts ≡ None)
no_first_by true w ts h = absurd (true≢false (ap is_some h))
no_first_by false w ts h = (refl, h)

-- where no reason refuses, each test fails
pub each_fails : EachTestFails
each_fails [] h = tt
each_fails (t ∷ ts) h = let p = no_first_by t.0 t.1 ts h in (p.0, each_fails ts p.1)

pub none_where_each_fails : NoReasonWhereEachFails
none_where_each_fails [] h = refl
none_where_each_fails (t ∷ ts) h = cond-false t.0 (Some t.1) (first_reason ts) h.0 ∙ none_where_each_fails ts h.1
