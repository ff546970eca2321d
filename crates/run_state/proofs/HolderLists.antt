-- The holders of a reservation as the numbers that pass a test, ascending.
use Rattle.std.proofs.Common.{◌≡◌, ℕ, zero, suc, ◌+◌, ◌<◌, ◌≤◌, Bool, true, false, inl, inr, List, [], ◌∷◌, refl, sym, ◌∙◌, ap, arith}
use Rattle.std.specs.Prelude.{Contains, ◌==◌, nat_lt, cond, not, filter}
use Rattle.std.specs.List.{range_with_len}
use Rattle.std.proofs.lemmas.Bool.{cases_eq, eq-eqb, ne_eqb, lt-ltb, le-ltb}
use Rattle.basics.specs.Lists.{numbers_below}
use Rattle.basics.proofs.ListFacts.{contains_here, from_contains, filter_contains, filter_same}
use Rattle.run_state.specs.Moves.{inserted, without}

-- the least number goes first
first_inserted : (q : ℕ) (ks : List ℕ) → ((k : ℕ) → Contains ks k → q < k) → inserted q ks ≡ q ∷ ks
first_inserted q [] h = refl
first_inserted q (k ∷ ks) h = ap (λ b. cond b (q ∷ k ∷ ks) (k ∷ inserted q ks)) (lt-ltb q k (h k (contains_here k ks)))

later_inserted : (q k : ℕ) (b : Bool) (ks : List ℕ) → nat_lt q k ≡ false → cond b (k ∷ inserted q ks) (inserted q ks) ≡ inserted q (cond b (k ∷ ks) ks)
later_inserted q k true ks h = sym (ap (λ b. cond b (q ∷ k ∷ ks) (k ∷ inserted q ks)) h)
later_inserted q k false ks h = refl

-- one number that passes more
module _ (s t : ℕ → Bool) (q : ℕ) (same : (k : ℕ) → (k ≡ q → ⊥) → t k ≡ s k) (was : s q ≡ false) (is : t q ≡ true) where
  more_from : (lo n : ℕ) → lo ≤ q → q < lo + n → filter t (range_with_len lo n) ≡ inserted q (filter s (range_with_len lo n))
  more_from lo zero low high = absurd (omega (arith, low, high))
  more_from lo (suc n) low high = elim (cases_eq lo q) [
    | inl e ↦ (
        let rest : filter t (range_with_len (lo + 1) n) ≡ filter s (range_with_len (lo + 1) n) = filter_same t s (range_with_len (lo + 1) n) (λ k c. same k (λ x. let b = (from_contains (lo + 1) n k c).0 in absurd (omega (arith, b, e, x)))) in
        let now : t lo ≡ true = ap t e ∙ is in
        let before : s lo ≡ false = ap s e ∙ was in
        ap (λ b. cond b (lo ∷ filter t (range_with_len (lo + 1) n)) (filter t (range_with_len (lo + 1) n))) now
        ∙ (ap (λ ks. lo ∷ ks) rest
        ∙ (ap (λ x. x ∷ filter s (range_with_len (lo + 1) n)) e
        ∙ (sym (first_inserted q (filter s (range_with_len (lo + 1) n)) (λ k c. let b = (from_contains (lo + 1) n k (filter_contains s (range_with_len (lo + 1) n) k c).0).0 in omega (arith, b, e)))
        ∙ ap (λ b. inserted q (cond b (lo ∷ filter s (range_with_len (lo + 1) n)) (filter s (range_with_len (lo + 1) n)))) (sym before)))))
    | inr ne ↦ (
        ap (λ ks. cond (t lo) (lo ∷ ks) ks) (more_from (lo + 1) n (omega (arith, low, ne)) (omega (arith, high)))
        ∙ (ap (λ b. cond b (lo ∷ inserted q (filter s (range_with_len (lo + 1) n))) (inserted q (filter s (range_with_len (lo + 1) n)))) (same lo ne)
        ∙ later_inserted q lo (s lo) (filter s (range_with_len (lo + 1) n)) (le-ltb q lo low)))
  ]

  pub one_more_passes : (n : ℕ) → q < n → filter t (numbers_below n) ≡ inserted q (filter s (numbers_below n))
  one_more_passes n below = more_from 0 n (omega (arith)) (omega (arith, below))

-- one number that passes no more
pub one_passes_no_more : (s t : ℕ → Bool) (q : ℕ) → ((k : ℕ) → (k ≡ q → ⊥) → t k ≡ s k) → t q ≡ false → (xs : List ℕ) → filter t xs ≡ without q (filter s xs)
one_passes_no_more s t q same gone [] = refl
one_passes_no_more s t q same gone (x ∷ xs) = elim (cases_eq x q) [
  | inl e ↦ (
      ap (λ b. cond b (x ∷ filter t xs) (filter t xs)) (ap t e ∙ gone)
      ∙ (one_passes_no_more s t q same gone xs ∙ drops (s x) (filter s xs) (eq-eqb x q e)))
  | inr ne ↦ (
      ap (λ b. cond b (x ∷ filter t xs) (filter t xs)) (same x ne)
      ∙ (ap (λ ks. cond (s x) (x ∷ ks) ks) (one_passes_no_more s t q same gone xs) ∙ keeps (s x) (filter s xs) (ne_eqb x q ne)))
]
  where
    drops : (b : Bool) (ks : List ℕ) → (x == q) ≡ true → without q ks ≡ without q (cond b (x ∷ ks) ks)
    drops true ks h = sym (ap (λ b. cond (not b) (x ∷ without q ks) (without q ks)) h)
    drops false ks h = refl

    keeps : (b : Bool) (ks : List ℕ) → (x == q) ≡ false → cond b (x ∷ without q ks) (without q ks) ≡ without q (cond b (x ∷ ks) ks)
    keeps true ks h = sym (ap (λ b. cond (not b) (x ∷ without q ks) (without q ks)) h)
    keeps false ks h = refl
