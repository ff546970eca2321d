-- Two lists of handles that differ, and that have the same members, weigh the same.
use Rattle.std.proofs.Common.{◌≡◌, ℕ, suc, ◌+◌, ◌⊎◌, inl, inr, List, [], ◌∷◌, ◌++◌, refl, sym, ◌∙◌, ap, subst, arith}
use Rattle.std.specs.Prelude.{Contains, Some, slice_get}
use Rattle.basics.specs.Sums.{total}
use Rattle.event_table.specs.declared.handle.Handle.{Handle}
use Rattle.basics.proofs.ListFacts.{contains_cases, contains_here, contains_there, contains_none}

abbrev pub Distinct : List Handle → Type 0
Distinct [] = Unit {0}
Distinct (x ∷ xs) = (Contains xs x → ⊥) × Distinct xs

-- a list with one item more in its middle
more_cases : (front : List Handle) (x : Handle) (back : List Handle) (k : Handle) → Contains (front ++ x ∷ back) k → (x ≡ k) ⊎ Contains (front ++ back) k
more_cases [] x back k c = contains_cases x back k c
more_cases (y ∷ ys) x back k c = elim (contains_cases y (ys ++ x ∷ back) k c) [
  | inl e ↦ inr (subst (λ z. Contains (y ∷ (ys ++ back)) z) e (contains_here y (ys ++ back)))
  | inr r ↦ (elim (more_cases ys x back k r) [ inl e ↦ inl e | inr s ↦ inr (contains_there y (ys ++ back) k s) ])
]

more_has : (front : List Handle) (x : Handle) (back : List Handle) (k : Handle) → Contains (front ++ back) k → Contains (front ++ x ∷ back) k
more_has [] x back k c = contains_there x back k c
more_has (y ∷ ys) x back k c = elim (contains_cases y (ys ++ back) k c) [
  | inl e ↦ subst (λ z. Contains (y ∷ (ys ++ x ∷ back)) z) e (contains_here y (ys ++ x ∷ back))
  | inr r ↦ contains_there y (ys ++ x ∷ back) k (more_has ys x back k r)
]

more_here : (front : List Handle) (x : Handle) (back : List Handle) → Contains (front ++ x ∷ back) x
more_here [] x back = contains_here x back
more_here (y ∷ ys) x back = contains_there y (ys ++ x ∷ back) x (more_here ys x back)

apart_in : (front : List Handle) (x : Handle) (back : List Handle) → Distinct (front ++ x ∷ back) → Contains (front ++ back) x → ⊥
apart_in [] x back d c = d.0 c
apart_in (y ∷ ys) x back d c = elim (contains_cases y (ys ++ back) x c) [
  | inl e ↦ d.0 (subst (λ z. Contains (ys ++ x ∷ back) z) (sym e) (more_here ys x back))
  | inr r ↦ apart_in ys x back d.1 r
]

distinct_in : (front : List Handle) (x : Handle) (back : List Handle) → Distinct (front ++ x ∷ back) → Distinct (front ++ back)
distinct_in [] x back d = d.1
distinct_in (y ∷ ys) x back d = (λ c. d.0 (more_has ys x back y c), distinct_in ys x back d.1)

total_in : (w : Handle → ℕ) (front : List Handle) (x : Handle) (back : List Handle) → total w (front ++ x ∷ back) ≡ w x + total w (front ++ back)
total_in w [] x back = refl
total_in w (y ∷ ys) x back = let e : total w (ys ++ x ∷ back) ≡ w x + total w (ys ++ back) = total_in w ys x back in omega (arith, e)

record Cut (xs : List Handle) (h : Handle) : Type 0 where
  front : List Handle
  back : List Handle
  is : xs ≡ front ++ h ∷ back

cut : (xs : List Handle) (h : Handle) → Contains xs h → Cut xs h
cut [] h c = absurd (contains_none h c)
cut (x ∷ xs) h c = elim (contains_cases x xs h c) [
  | inl e ↦ record { front = []; back = xs; is = ap (λ z. z ∷ xs) e }
  | inr r ↦ (let k = cut xs h r in record { front = x ∷ k.front; back = k.back; is = ap (λ ys. x ∷ ys) k.is })
]

pub same_total : (w : Handle → ℕ) (xs ys : List Handle) → Distinct xs → Distinct ys → ((k : Handle) → Contains xs k → Contains ys k) → ((k : Handle) → Contains ys k → Contains xs k) → total w xs ≡ total w ys
same_total w [] [] d e f b = refl
same_total w [] (y ∷ ys) d e f b = absurd (contains_none y (b y (contains_here y ys)))
same_total w (x ∷ xs) ys d e f b =
    let k = cut ys x (f x (contains_here x xs)) in
    let ek = subst Distinct k.is e in
    let rest = same_total w xs (k.front ++ k.back) d.1 (distinct_in k.front x k.back ek)
    (λ j c. elim (more_cases k.front x k.back j (subst (λ zs. Contains zs j) k.is (f j (contains_there x xs j c)))) [
      | inl same ↦ absurd (d.0 (subst (λ z. Contains xs z) (sym same) c))
      | inr r ↦ r
    ])
    (λ j c. elim (contains_cases x xs j (b j (subst (λ zs. Contains zs j) (sym k.is) (more_has k.front x k.back j c)))) [
      | inl same ↦ absurd (apart_in k.front x k.back ek (subst (λ z. Contains (k.front ++ k.back) z) (sym same) c))
      | inr r ↦ r
    ])
    in
    let all = ap (total w) k.is ∙ total_in w k.front x k.back in
    omega (arith, rest, all)

-- handles that differ by their places are distinct
pub once_distinct : (hs : List Handle) → ((a b : ℕ) (h : Handle) → slice_get hs a ≡ Some h → slice_get hs b ≡ Some h → a ≡ b) → Distinct hs
once_distinct [] once = tt
once_distinct (h ∷ hs) once = (
  λ c. (let k = got_of hs h c in let e : 0 ≡ suc k.0 = once 0 (suc k.0) h refl k.1 in absurd (omega (arith, e))),
  once_distinct hs (λ a b k ea eb. (let e : suc a ≡ suc b = once (suc a) (suc b) k ea eb in omega (arith, e))),
)
  where
    got_of : (xs : List Handle) (x : Handle) → Contains xs x → (k : ℕ) × (slice_get xs k ≡ Some x)
    got_of [] x c = absurd (contains_none x c)
    got_of (y ∷ ys) x c = elim (contains_cases y ys x c) [ inl e ↦ (0, ap Some e) | inr r ↦ (let k = got_of ys x r in (suc k.0, k.1)) ]
