-- Lists of numbers that fall or have no number twice, and lists with one more at their end.
use Rattle.std.proofs.Common.{◌≡◌, ℕ, zero, suc, ◌+◌, ◌<◌, ◌≤◌, Bool, true, false, cond, ◌⊎◌, inl, inr, List, [], ◌∷◌, ◌++◌, length, map, take, drop, refl, sym, ◌∙◌, subst, length-append, arith}
use Rattle.std.specs.Prelude.{Contains, filter, nat_eq, ◌==◌}
use Rattle.std.specs.List.{list_any}
use Rattle.std.proofs.lemmas.Bool.{true≢false, or_parts, eq-eqb, eqb-true, false_from_ne_true}
use Rattle.std.proofs.lemmas.List.Elements.{Contains-append_cases, Contains-append_left, Contains-append_right}
use Rattle.basics.proofs.ListFacts.{contains_cases, contains_none, contains_here, contains_there, some_passes, passes_some, filter_contains, map_contains}
use Rattle.graph_terms.specs.Fits.{repeats}
use Rattle.flow_order.specs.SourceParts.{down_from, is_reached, least, has, with_event}
use Rattle.basics.proofs.ListParts.{take_within}
use Rattle.basics.proofs.Choices.{both_not}

-- each number is below the one before it
abbrev pub Falls : List ℕ → Type 0
Falls [] = Unit {0}
Falls (x ∷ xs) = ((y : ℕ) → Contains xs y → y < x) × Falls xs

pub down_below : (n i : ℕ) → Contains (down_from n) i → i < n
down_below zero i c = absurd (contains_none i c)
down_below (suc n) i c = elim (contains_cases n (down_from n) i c) [
  | inl same ↦ omega arith
  | inr rest ↦ (let b : i < n = down_below n i rest in omega arith)
]

pub falls_down : (n : ℕ) → Falls (down_from n)
falls_down zero = tt
falls_down (suc n) = (λ y c. down_below n y c, falls_down n)

falls_filter_by : (t : ℕ → Bool) (x : ℕ) (xs : List ℕ) (b : Bool) → Falls (x ∷ xs) → Falls (filter t xs) → Falls (cond b (x ∷ filter t xs) (filter t xs))
falls_filter_by t x xs true f again = (λ y c. f.0 y (filter_contains t xs y c).0, again)
falls_filter_by t x xs false f again = again

pub falls_filter : (t : ℕ → Bool) (xs : List ℕ) → Falls xs → Falls (filter t xs)
falls_filter t [] f = tt
falls_filter t (x ∷ xs) f = falls_filter_by t x xs (t x) f (falls_filter t xs f.1)

least_within_by : (s : List (List ℕ)) (kept : List ℕ) (x : ℕ) (xs : List ℕ) (i : ℕ) (b : Bool) → Contains (cond b (least s kept xs) (x ∷ least s (kept ++ x ∷ []) xs)) i →
    ((k : List ℕ) → Contains (least s k xs) i → Contains xs i) → Contains (x ∷ xs) i
least_within_by s kept x xs i true c again = contains_there x xs i (again kept c)
least_within_by s kept x xs i false c again = elim (contains_cases x (least s (kept ++ x ∷ []) xs) i c) [
  | inl same ↦ subst (λ z. Contains (x ∷ xs) z) same (contains_here x xs)
  | inr rest ↦ contains_there x xs i (again (kept ++ x ∷ []) rest)
]

pub least_within : (s : List (List ℕ)) (kept xs : List ℕ) (i : ℕ) → Contains (least s kept xs) i → Contains xs i
least_within s kept [] i c = absurd (contains_none i c)
least_within s kept (x ∷ xs) i c = least_within_by s kept x xs i (is_reached s kept x) c (λ k d. least_within s k xs i d)

falls_least_by : (s : List (List ℕ)) (kept : List ℕ) (x : ℕ) (xs : List ℕ) (b : Bool) → Falls (x ∷ xs) → ((k : List ℕ) → Falls (least s k xs)) → Falls (cond b (least s kept xs) (x ∷ least s (kept ++ x ∷ []) xs))
falls_least_by s kept x xs true f again = again kept
falls_least_by s kept x xs false f again = (λ y c. f.0 y (least_within s (kept ++ x ∷ []) xs y c), again (kept ++ x ∷ []))

pub falls_least : (s : List (List ℕ)) (kept xs : List ℕ) → Falls xs → Falls (least s kept xs)
falls_least s kept [] f = tt
falls_least s kept (x ∷ xs) f = falls_least_by s kept x xs (is_reached s kept x) f (λ k. falls_least s k xs f.1)

-- numbers that fall are mapped to numbers that differ, where the map rises
none_alike : (place : ℕ → ℕ) (x : ℕ) (xs : List ℕ) → ((y : ℕ) → Contains xs y → place y < place x) → list_any (nat_eq (place x)) (map place xs) ≡ false
none_alike place x xs below = false_from_ne_true (list_any (nat_eq (place x)) (map place xs)) (λ h.
    let z = some_passes (nat_eq (place x)) (map place xs) h in
    let y = map_contains place xs z.0 z.1 in
    let less : place y.0 < place x = below y.0 y.1 in
    let same : place x ≡ z.0 = eqb-true (place x) z.0 z.2 in
    let is : place y.0 ≡ z.0 = y.2 in
    let no : ⊥ = absurd (omega arith) in no)

pub falls_differ : (place : ℕ → ℕ) (n : ℕ) (xs : List ℕ) → ((i j : ℕ) → i < j → j < n → place i < place j) → ((y : ℕ) → Contains xs y → y < n) → Falls xs → repeats nat_eq (map place xs) ≡ false
falls_differ place n [] rises within f = refl
falls_differ place n (x ∷ xs) rises within f =
    both_not (list_any (nat_eq (place x)) (map place xs)) (repeats nat_eq (map place xs)) (none_alike place x xs (λ y c. rises y x (f.0 y c) (within x (contains_here x xs))))
    (falls_differ place n xs rises (λ y c. within y (contains_there x xs y c)) f.1)

none_in : (t : ℕ → Bool) (xs ys : List ℕ) → ((y : ℕ) → Contains ys y → Contains xs y) → list_any t xs ≡ false → list_any t ys ≡ false
none_in t xs ys sub h = false_from_ne_true (list_any t ys) (λ e. let s = some_passes t ys e in true≢false (sym (passes_some t xs s.0 (sub s.0 s.1) s.2) ∙ h))

pub take_once : (n : ℕ) (xs : List ℕ) → repeats nat_eq xs ≡ false → repeats nat_eq (take n xs) ≡ false
take_once zero xs h = refl
take_once (suc n) [] h = refl
take_once (suc n) (x ∷ xs) h =
    let p = or_parts (list_any (nat_eq x) xs) (repeats nat_eq xs) h in
    both_not (list_any (nat_eq x) (take n xs)) (repeats nat_eq (take n xs)) (none_in (nat_eq x) xs (take n xs) (λ y c. take_within n xs y c) p.0) (take_once n xs p.1)

pub drop_once : (n : ℕ) (xs : List ℕ) → repeats nat_eq xs ≡ false → repeats nat_eq (drop n xs) ≡ false
drop_once zero xs h = h
drop_once (suc n) [] h = refl
drop_once (suc n) (x ∷ xs) h = drop_once n xs (or_parts (list_any (nat_eq x) xs) (repeats nat_eq xs) h).1

push_once : (xs : List ℕ) (e : ℕ) → has xs e ≡ false → repeats nat_eq xs ≡ false → repeats nat_eq (xs ++ e ∷ []) ≡ false
push_once [] e n h = refl
push_once (x ∷ xs) e n h =
    let p = or_parts (list_any (nat_eq x) xs) (repeats nat_eq xs) h in
    let q = or_parts (x == e) (has xs e) n in
    both_not (list_any (nat_eq x) (xs ++ e ∷ [])) (repeats nat_eq (xs ++ e ∷ [])) (false_from_ne_true (list_any (nat_eq x) (xs ++ e ∷ [])) (λ h.
    let s = some_passes (nat_eq x) (xs ++ e ∷ []) h in
    elim (Contains-append_cases xs (e ∷ []) s.0 s.1) [
      | inl old ↦ true≢false (sym (passes_some (nat_eq x) xs s.0 old s.2) ∙ p.0)
      | inr new ↦ elim (contains_cases e [] s.0 new) [
        | inl same ↦ true≢false (sym (eq-eqb x e (eqb-true x s.0 s.2 ∙ sym same)) ∙ q.0)
        | inr none ↦ absurd (contains_none s.0 none)
      ]
    ])) (push_once xs e q.1 p.1)

with_event_once_by : (xs : List ℕ) (e : ℕ) (b : Bool) → has xs e ≡ b → repeats nat_eq xs ≡ false → repeats nat_eq (cond b xs (xs ++ e ∷ [])) ≡ false
with_event_once_by xs e true h r = r
with_event_once_by xs e false h r = push_once xs e h r

pub with_event_once : (xs : List ℕ) (e : ℕ) → repeats nat_eq xs ≡ false → repeats nat_eq (with_event xs e) ≡ false
with_event_once xs e r = with_event_once_by xs e (has xs e) refl r

-- what is in a list with an event more
has_in : (xs : List ℕ) (e : ℕ) → has xs e ≡ true → Contains xs e
has_in xs e h = let s = some_passes (λ k. k == e) xs h in subst (λ x. Contains xs x) (eqb-true s.0 e s.2) s.1

with_event_cases_by : (xs : List ℕ) (e : ℕ) (b : Bool) (x : ℕ) → Contains (cond b xs (xs ++ e ∷ [])) x → Contains xs x ⊎ (x ≡ e)
with_event_cases_by xs e true x c = inl c
with_event_cases_by xs e false x c = elim (Contains-append_cases xs (e ∷ []) x c) [
  | inl old ↦ inl old
  | inr new ↦ elim (contains_cases e [] x new) [ inl same ↦ inr (sym same) | inr none ↦ absurd (contains_none x none) ]
]

pub with_event_cases : (xs : List ℕ) (e x : ℕ) → Contains (with_event xs e) x → Contains xs x ⊎ (x ≡ e)
with_event_cases xs e x c = with_event_cases_by xs e (has xs e) x c

old_in_by : (xs : List ℕ) (e : ℕ) (b : Bool) (x : ℕ) → Contains xs x → Contains (cond b xs (xs ++ e ∷ [])) x
old_in_by xs e true x c = c
old_in_by xs e false x c = Contains-append_left xs (e ∷ []) x c

pub old_in : (xs : List ℕ) (e x : ℕ) → Contains xs x → Contains (with_event xs e) x
old_in xs e x c = old_in_by xs e (has xs e) x c

new_in_by : (xs : List ℕ) (e : ℕ) (b : Bool) → has xs e ≡ b → Contains (cond b xs (xs ++ e ∷ [])) e
new_in_by xs e true h = has_in xs e h
new_in_by xs e false h = Contains-append_right xs (e ∷ []) e (contains_here e [])

pub new_in : (xs : List ℕ) (e : ℕ) → Contains (with_event xs e) e
new_in xs e = new_in_by xs e (has xs e) refl

length_with_by : (xs : List ℕ) (e : ℕ) (b : Bool) → length (cond b xs (xs ++ e ∷ [])) ≤ length xs + 1
length_with_by xs e true = omega arith
length_with_by xs e false = let l : length (xs ++ e ∷ []) ≡ length xs + 1 = length-append xs (e ∷ []) in omega arith

pub length_with : (xs : List ℕ) (e : ℕ) → length (with_event xs e) ≤ length xs + 1
length_with xs e = length_with_by xs e (has xs e)
