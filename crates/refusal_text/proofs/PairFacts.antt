-- Acquires of one reservation, by the reservations.
use Rattle.std.proofs.Common.{◌≡◌, ℕ, ◌<◌, ◌≤◌, Bool, true, false, List, [], ◌∷◌, refl, sym, ◌∙◌, ap, arith}
use Rattle.std.specs.Prelude.{Option, Some, None, ◌&&◌, ◌||◌, length}
use Rattle.std.specs.List.{list_any}
use Rattle.std.specs.Option.{option_and_then}
use Rattle.std.proofs.lemmas.Bool.{true≢false, eqb-true, eq-eqb}
use Rattle.std.proofs.lemmas.Option.{none-some, same_Some}
use Rattle.graph_terms.specs.Fits.{IsGraph}
use Rattle.graph_terms.specs.Graph.{GraphValue, locks, verb_at}
use Rattle.graph_terms.specs.declared.verb.Verb.{Verb}
use Rattle.graph_terms.specs.declared.verb.Verb.TheVariants.{Acquire}
use Rattle.graph_terms.specs.Reservations.{taken_by, lock_at}
use Rattle.graph_terms.proofs.Public.{acquired_lock_known, is_acquire_from}
use Rattle.refusal_text.specs.Refused.{are_equal, takes, of_one_lock, have_pair}

-- one of a list passes a test, and so each test that it passes
abbrev Found : (ℕ → Bool) → List ℕ → Type 0
Found p xs = (x : ℕ) × (p x ≡ true) × ((q : ℕ → Bool) → q x ≡ true → list_any q xs ≡ true)

or_right : (a b : Bool) → b ≡ true → (a || b) ≡ true
or_right true b e = refl
or_right false b e = e

found_later : (p : ℕ → Bool) (x : ℕ) (xs : List ℕ) → Found p xs → Found p (x ∷ xs)
found_later p x xs f = (f.0, f.1, λ q h. or_right (q x) (list_any q xs) (f.2 q h))

found_in : (p : ℕ → Bool) (x : ℕ) (xs : List ℕ) (b : Bool) → p x ≡ b → (b || list_any p xs) ≡ true → (list_any p xs ≡ true → Found p xs) → Found p (x ∷ xs)
found_in p x xs true e h later = (x, e, λ q y. ap (λ z. z || list_any q xs) y)
found_in p x xs false e h later = found_later p x xs (later h)

found : (p : ℕ → Bool) (xs : List ℕ) → list_any p xs ≡ true → Found p xs
found p [] e = absurd (true≢false (sym e))
found p (x ∷ xs) e = found_in p x xs (p x) refl e (found p xs)

-- two that are equal are one
equal_some : (a b : Option ℕ) → are_equal a b ≡ true → (l : ℕ) × (a ≡ Some l) × (b ≡ Some l)
equal_some (Some l) (Some k) e = (l, refl, ap Some (sym (eqb-true l k e)))
equal_some (Some l) None e = absurd (true≢false (sym e))
equal_some None b e = absurd (true≢false (sym e))

taken_is : (a : Option ℕ) (l : ℕ) → are_equal a (Some l) ≡ true → a ≡ Some l
taken_is (Some k) l e = ap Some (eqb-true k l e)
taken_is None l e = absurd (true≢false (sym e))

is_taken : (a : Option ℕ) (l : ℕ) → a ≡ Some l → are_equal a (Some l) ≡ true
is_taken a l e = ap (λ o. are_equal o (Some l)) e ∙ eq-eqb l l refl

are_one : (a b : Option ℕ) (l : ℕ) → a ≡ Some l → b ≡ Some l → are_equal a b ≡ true
are_one a b l x y = ap (λ o. are_equal o b) x ∙ (ap (are_equal (Some l)) y ∙ eq-eqb l l refl)

-- a reservation that both acquire
both_are : (g : GraphValue) (qs ks : List ℕ) (l : ℕ) → list_any (takes g l) qs ≡ true → list_any (takes g l) ks ≡ true → have_pair g qs ks ≡ true
both_are g qs ks l x y =
    let f = found (takes g l) qs x in
    let h = found (takes g l) ks y in
    f.2 (λ q. list_any (of_one_lock g q) ks) (h.2 (of_one_lock g f.0) (are_one (lock_at g f.0) (lock_at g h.0) l (taken_is (lock_at g f.0) l f.1) (taken_is (lock_at g h.0) l h.1)))

both_true : (a b : Bool) → (a && b) ≡ true → (a ≡ true) × (b ≡ true)
both_true true b e = (refl, e)
both_true false b e = absurd (true≢false (sym e))

pub have_both : (g : GraphValue) (qs ks : List ℕ) (l : ℕ) → (list_any (takes g l) qs && list_any (takes g l) ks) ≡ true → true ≡ have_pair g qs ks
have_both g qs ks l e = let b = both_true (list_any (takes g l) qs) (list_any (takes g l) ks) e in sym (both_are g qs ks l b.0 b.1)

taken_from : (l : ℕ) (o : Option Verb) → option_and_then taken_by o ≡ Some l → (s : _) × (o ≡ Some (Acquire l s))
taken_from l None h = absurd (none-some l h)
taken_from l (Some (Acquire k s)) h = (s, ap (λ x. Some (Acquire x s)) (same_Some k l h))
taken_from l (Some v) h = absurd (none-some l h)

lock_known : (g : GraphValue) → IsGraph g → (q l : ℕ) → lock_at g q ≡ Some l → l < length (locks g)
lock_known g graph q l e = let t = taken_from l (verb_at g q) e in acquired_lock_known g graph q l (is_acquire_from g q l t.0 t.1)

-- each pair is of a reservation that is declared
abbrev Common : GraphValue → List ℕ → List ℕ → Type 0
Common g qs ks = (l : ℕ) × (l < length (locks g)) × ((list_any (takes g l) qs && list_any (takes g l) ks) ≡ true)

and_true : (a b : Bool) → a ≡ true → b ≡ true → (a && b) ≡ true
and_true true b x y = y
and_true false b x y = absurd (true≢false (sym x))

common : (g : GraphValue) → IsGraph g → (qs ks : List ℕ) → have_pair g qs ks ≡ true → Common g qs ks
common g graph qs ks e =
    let f = found (λ q. list_any (of_one_lock g q) ks) qs e in
    let h = found (of_one_lock g f.0) ks f.1 in
    let s = equal_some (lock_at g f.0) (lock_at g h.0) h.1 in
    let one : list_any (takes g s.0) qs ≡ true = f.2 (takes g s.0) (is_taken (lock_at g f.0) s.0 s.1) in
    let other : list_any (takes g s.0) ks ≡ true = h.2 (takes g s.0) (is_taken (lock_at g h.0) s.0 s.2) in
    (s.0, lock_known g graph f.0 s.0 s.1, and_true (list_any (takes g s.0) qs) (list_any (takes g s.0) ks) one other)

not_true : (b : Bool) → (b ≡ true → ⊥) → false ≡ b
not_true true h = absurd (h refl)
not_true false h = refl

pub have_none : (g : GraphValue) → IsGraph g → (qs ks : List ℕ) (n : ℕ) → length (locks g) ≤ n → ((l : ℕ) → l < n → (list_any (takes g l) qs && list_any (takes g l) ks) ≡ false) → false ≡ have_pair g qs ks
have_none g graph qs ks n all none = not_true (have_pair g qs ks) (λ e. (let c = common g graph qs ks e in true≢false (sym c.2 ∙ none c.0 (omega (arith, all, c.1)))))
