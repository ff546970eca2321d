-- The least shared point of some pairs of uses and of others, and of one pair.
use Rattle.std.proofs.Common.{◌≡◌, ℕ, zero, suc, ◌+◌, ◌<◌, ◌≤◌, Bool, true, false, cond, ◌⊎◌, inl, inr, List, [], ◌∷◌, ◌++◌, length, refl, sym, ◌∙◌, ap, subst, arith, take}
use Rattle.std.specs.Prelude.{Contains, Option, Some, None, slice_get, slice_index}
use Rattle.std.specs.List.{slice_index_or}
use Rattle.std.specs.List.Sorted.{IsStrictlyIncreasing}
use Rattle.std.proofs.lemmas.Bool.{cases_lt, cases_eq}
use Rattle.std.proofs.lemmas.Bool.Decides.{nat_tests}
use Rattle.std.proofs.lemmas.Option.{none-some, slice_get_within, get_or_from_slice_get, slice_get-get_or}
use Rattle.std.proofs.lemmas.List.{take_more, take_all}
use Rattle.std.proofs.lemmas.List.Elements.{Contains-append_left, Contains-push, Contains-push_cases}
use Rattle.graph_terms.specs.declared.verb.Access.{Access}
use Rattle.graph_terms.specs.Graph.{GraphValue}
use Rattle.graph_terms.specs.Access.{Conflict}
use Rattle.explanations.specs.declared.races.SharedPoint.{SharedPoint}
use Rattle.explanations.specs.Shared.{AreUses, IsLeastShared, IsLeastAmong, is_before, lesser_of}

-- how two shared points stand to each other
before_is : (s t : SharedPoint) → is_before s t ≡ true → (s.one.column < t.one.column) ⊎ ((s.one.column ≡ t.one.column) × (s.point < t.point))
before_is s t h = grind (arith, nat_tests)

not_before : (s t : SharedPoint) → is_before s t ≡ false → (t.one.column < s.one.column) ⊎ ((t.one.column ≡ s.one.column) × (t.point ≤ s.point))
not_before s t h = elim (cases_lt t.one.column s.one.column) [
  | inl l ↦ inl l
  | inr up ↦ elim (cases_eq t.one.column s.one.column) [
    | inl same ↦ inr (same, grind (arith, nat_tests))
    | inr apart ↦ absurd (let l : s.one.column < t.one.column = omega arith in grind (arith, nat_tests))
  ]
]

-- first is at most the second, and the second at most the third
further : (c d e p q r : ℕ) → (c < d) ⊎ ((c ≡ d) × (p ≤ q)) → (d < e) ⊎ ((d ≡ e) × (q ≤ r)) → (c < e) ⊎ ((c ≡ e) × (p ≤ r))
further c d e p q r (inl l) (inl m) = inl (omega arith)
further c d e p q r (inl l) (inr m) = inl (let e : d ≡ e = m.0 in omega arith)
further c d e p q r (inr l) (inl m) = inl (let e : c ≡ d = l.0 in omega arith)
further c d e p q r (inr l) (inr m) = inr (l.0 ∙ m.0, (let a : p ≤ q = l.1 in let b : q ≤ r = m.1 in omega arith))

weaker : (c d p q : ℕ) → (c < d) ⊎ ((c ≡ d) × (p < q)) → (c < d) ⊎ ((c ≡ d) × (p ≤ q))
weaker c d p q (inl l) = inl l
weaker c d p q (inr m) = inr (m.0, (let a : p < q = m.1 in omega arith))

module _ (g : GraphValue) (S T U : Access → Access → Type 0) (left : (a b : Access) → S a b → U a b) (right : (a b : Access) → T a b → U a b) (split : (a b : Access) → U a b → S a b ⊎ T a b) where
  by_test : (s t : SharedPoint) (test : Bool) → is_before t s ≡ test → IsLeastShared g S s → IsLeastShared g T t → IsLeastAmong g U (cond test (Some t) (Some s))
  by_test s t true h l m = record {
    shared = right t.one t.other m.shared;
    meet = m.meet;
    least = λ a b p u k. elim (split a b u) [
      | inl x ↦ further t.one.column s.one.column a.column t.point s.point p (weaker t.one.column s.one.column t.point s.point (before_is t s h)) (l.least a b p x k)
      | inr x ↦ m.least a b p x k
    ];
  }
  by_test s t false h l m = record {
    shared = left s.one s.other l.shared;
    meet = l.meet;
    least = λ a b p u k. elim (split a b u) [
      | inl x ↦ l.least a b p x k
      | inr x ↦ further s.one.column t.one.column a.column s.point t.point p (not_before t s h) (m.least a b p x k)
    ];
  }

  -- of some pairs and of others
  pub least_more : (best found : Option SharedPoint) → IsLeastAmong g S best → IsLeastAmong g T found → IsLeastAmong g U (lesser_of best found)
  least_more None None l m = λ a b p u k. elim (split a b u) [ inl x ↦ l a b p x k | inr x ↦ m a b p x k ]
  least_more None (Some t) l m = record {
    shared = right t.one t.other m.shared;
    meet = m.meet;
    least = λ a b p u k. elim (split a b u) [ inl x ↦ absurd (l a b p x k) | inr x ↦ m.least a b p x k ];
  }
  least_more (Some s) None l m = record {
    shared = left s.one s.other l.shared;
    meet = l.meet;
    least = λ a b p u k. elim (split a b u) [ inl x ↦ l.least a b p x k | inr x ↦ absurd (m a b p x k) ];
  }
  least_more (Some s) (Some t) l m = by_test s t (is_before t s) refl l m

-- said of other pairs
pub least_as : (g : GraphValue) (S T : Access → Access → Type 0) → ((a b : Access) → S a b → T a b) → ((a b : Access) → T a b → S a b) → (found : Option SharedPoint) → IsLeastAmong g S found → IsLeastAmong g T found
least_as g S T into back None l = λ a b p t k. l a b p (back a b t) k
least_as g S T into back (Some s) l = record { shared = into s.one s.other l.shared; meet = l.meet; least = λ a b p t k. l.least a b p (back a b t) k }

-- the first accesses, with one more, and all of them
first_more : (xs : List Access) (k : ℕ) (x : Access) → slice_get xs k ≡ Some x → take (k + 1) xs ≡ take k xs ++ x ∷ []
first_more xs k x at = take_more xs k x (slice_get_within xs k x at) ∙ ap (λ z. take k xs ++ z ∷ []) (get_or_from_slice_get xs k x x at)

-- one more use by the second line
pub others_more : (g : GraphValue) (one : Access) (xs : List Access) (k : ℕ) (x : Access) → slice_get xs k ≡ Some x → (best found : Option SharedPoint) → IsLeastAmong g (λ a b. (a ≡ one) × Contains (take k xs) b) best →
    IsLeastAmong g (λ a b. (a ≡ one) × (b ≡ x)) found → IsLeastAmong g (λ a b. (a ≡ one) × Contains (take (k + 1) xs) b) (lesser_of best found)
others_more g one xs k x at best found l m = least_more g (λ a b. (a ≡ one) × Contains (take k xs) b) (λ a b. (a ≡ one) × (b ≡ x)) (λ a b. (a ≡ one) × Contains (take (k + 1) xs) b)
    (λ a b h. (h.0, subst (λ ys. Contains ys b) (sym (first_more xs k x at)) (Contains-append_left (take k xs) (x ∷ []) b h.1)))
    (λ a b h. (h.0, subst (λ ys. Contains ys b) (sym (first_more xs k x at)) (subst (λ z. Contains (take k xs ++ x ∷ []) z) (sym h.1) (Contains-push (take k xs) x))))
    (λ a b h. elim (Contains-push_cases (take k xs) x b (subst (λ ys. Contains ys b) (first_more xs k x at) h.1)) [ inl c ↦ inl (h.0, c) | inr e ↦ inr (h.0, sym e) ])
    best found l m

-- one more use by the first
pub ones_more : (g : GraphValue) (ys xs : List Access) (k : ℕ) (x : Access) → slice_get xs k ≡ Some x → (best found : Option SharedPoint) → IsLeastAmong g (λ a b. Contains (take k xs) a × Contains ys b) best →
    IsLeastAmong g (λ a b. (a ≡ x) × Contains ys b) found → IsLeastAmong g (λ a b. Contains (take (k + 1) xs) a × Contains ys b) (lesser_of best found)
ones_more g ys xs k x at best found l m = least_more g (λ a b. Contains (take k xs) a × Contains ys b) (λ a b. (a ≡ x) × Contains ys b) (λ a b. Contains (take (k + 1) xs) a × Contains ys b)
    (λ a b h. (subst (λ zs. Contains zs a) (sym (first_more xs k x at)) (Contains-append_left (take k xs) (x ∷ []) a h.0), h.1))
    (λ a b h. (subst (λ zs. Contains zs a) (sym (first_more xs k x at)) (subst (λ z. Contains (take k xs ++ x ∷ []) z) (sym h.0) (Contains-push (take k xs) x)), h.1))
    (λ a b h. elim (Contains-push_cases (take k xs) x a (subst (λ zs. Contains zs a) (first_more xs k x at) h.0)) [ inl c ↦ inl (c, h.1) | inr e ↦ inr (sym e, h.1) ])
    best found l m

-- all of them
pub others_all : (g : GraphValue) (one : Access) (xs : List Access) (k : ℕ) → length xs ≤ k → (best : Option SharedPoint) → IsLeastAmong g (λ a b. (a ≡ one) × Contains (take k xs) b) best → IsLeastAmong g (λ a b. (a ≡ one) × Contains xs b) best
others_all g one xs k few best l = subst (λ ys. IsLeastAmong g (λ a b. (a ≡ one) × Contains ys b) best) (take_all k xs few) l

pub ones_all : (g : GraphValue) (ys xs : List Access) (k : ℕ) → length xs ≤ k → (best : Option SharedPoint) → IsLeastAmong g (λ a b. Contains (take k xs) a × Contains ys b) best → IsLeastAmong g (λ a b. Contains xs a × Contains ys b) best
ones_all g ys xs k few best l = subst (λ zs. IsLeastAmong g (λ a b. Contains zs a × Contains ys b) best) (take_all k xs few) l

-- an access that was read is one of the line, and where none is read there are no more
pub access_read : (xs : List Access) (k : ℕ) (a : Access) → slice_get xs k ≡ Some a → Contains xs a
access_read xs k a e = (k, slice_get_within xs k a e, get_or_from_slice_get xs k a a e)

absent : (xs : List Access) (k : ℕ) → k < length xs → slice_get xs k ≡ None → ⊥
absent [] k l gone = absurd (omega arith)
absent (x ∷ xs) k l gone = none-some (slice_index_or (x ∷ xs) k x) (sym gone ∙ slice_get-get_or (x ∷ xs) k x l)

pub no_more : (xs : List Access) (k : ℕ) → slice_get xs k ≡ None → length xs ≤ k
no_more xs k gone = elim (cases_lt k (length xs)) [ inl l ↦ absurd (absent xs k l gone) | inr le ↦ le ]

-- lines that do not meet do not conflict
pub no_conflict : (g : GraphValue) (i j : ℕ) → IsLeastAmong g (AreUses g i j) None → Conflict g i j → ⊥
no_conflict g i j none c = none c.one c.other c.conflict.meet.0 (c.one_in, c.other_in) (record { column = c.conflict.column; one_point = c.conflict.meet.1; other_point = c.conflict.meet.2; clash = c.conflict.clash })

-- the first of numbers that ascend is the least
pub first_least : (xs : List ℕ) → IsStrictlyIncreasing xs → (k : ℕ) → k < length xs → slice_index xs 0 ≤ slice_index xs k
first_least xs up zero h = omega arith
first_least xs up (suc k) h =
    let before : slice_index xs 0 ≤ slice_index xs k = first_least xs up k (omega arith) in
    let next : slice_index xs k < slice_index xs (k + 1) = up k (omega arith) in
    let same : slice_index xs (k + 1) ≡ slice_index xs (suc k) = ap (slice_index xs) (let e : k + 1 ≡ suc k = omega arith in e) in omega arith

pub no_conflict_by : (g : GraphValue) (i j : ℕ) (found : Option SharedPoint) → IsLeastAmong g (AreUses g i j) found → found ≡ None → Conflict g i j → ⊥
no_conflict_by g i j found l is = no_conflict g i j (subst (λ o. IsLeastAmong g (AreUses g i j) o) is l)
