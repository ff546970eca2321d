-- Sums over lists that change at one place.
use Rattle.std.proofs.Common.{◌≡◌, ℕ, zero, suc, ◌+◌, ◌<◌, ◌≤◌, ◌≢◌, ◌⊎◌, List, [], ◌∷◌, ◌++◌, length, get_or, set, sym, refl, ap, inl, inr, ⊎_elim, arith, cond, eq-eqb, ne_eqb}
use Rattle.std.specs.Prelude.{Contains}
use mathlib.Core.Logic.{dite}
use native.Mathlib.Decide.{ℕ_discrete}
use mathlib.Core.Option.{some, some-injective, some-ne-none}
use lib.ListN.{get_elem?}
pub use Rattle.basics.specs.Sums.{only}
use Rattle.basics.specs.Sums.{total, below}
use Rattle.basics.proofs.ListFacts.{contains_none, contains_cases}

module _ {A : Type 0} (g : A → ℕ) where
  pub total-append : (l m : List A) → total g (l ++ m) ≡ total g l + total g m
  total-append [] m = omega arith
  total-append (x ∷ xs) m = omega (arith, total-append xs m)

  pub total-set : (l : List A) (j : ℕ) (v w : A) → get_elem? l j ≡ some v → total g (set l j w) + g v ≡ total g l + g w
  total-set [] j v w e = absurd (some-ne-none v (sym e))
  total-set (x ∷ xs) zero v w e = omega (arith, ap g (some-injective x v e))
  total-set (x ∷ xs) (suc j) v w e = omega (arith, total-set xs j v w e)

  pub total-put : (l : List A) (j : ℕ) (w d : A) → j < length l → total g (set l j w) + g (get_or l j d) ≡ total g l + g w
  total-put [] j w d h = absurd (omega arith)
  total-put (x ∷ xs) zero w d h = omega arith
  total-put (x ∷ xs) (suc j) w d h = omega (arith, total-put xs j w d (omega arith))

  pub term_le : (l : List A) (j : ℕ) (v : A) → get_elem? l j ≡ some v → g v ≤ total g l
  term_le [] j v e = absurd (some-ne-none v (sym e))
  term_le (x ∷ xs) zero v e = omega (arith, ap g (some-injective x v e))
  term_le (x ∷ xs) (suc j) v e = omega (arith, term_le xs j v e)

  pub terms_le : (l : List A) (j k : ℕ) (v u : A) → k ≢ j → get_elem? l j ≡ some v → get_elem? l k ≡ some u → g v + g u ≤ total g l
  terms_le [] j k v u n e d = absurd (some-ne-none v (sym e))
  terms_le (x ∷ xs) zero zero v u n e d = absurd (n refl)
  terms_le (x ∷ xs) zero (suc k) v u n e d = omega (arith, ap g (some-injective x v e), term_le xs k u d)
  terms_le (x ∷ xs) (suc j) zero v u n e d = omega (arith, ap g (some-injective x u d), term_le xs j v e)
  terms_le (x ∷ xs) (suc j) (suc k) v u n e d = omega (arith, terms_le xs j k v u (λ h. n (ap suc h)) e d)

  pub entry_le : (l : List A) (j : ℕ) (d : A) → j < length l → g (get_or l j d) ≤ total g l
  entry_le [] j d h = absurd (omega arith)
  entry_le (x ∷ xs) zero d h = omega arith
  entry_le (x ∷ xs) (suc j) d h = omega (arith, entry_le xs j d (omega arith))

  pub item_le : (l : List A) (x : A) → Contains l x → g x ≤ total g l
  item_le [] x c = absurd (contains_none x c)
  item_le (y ∷ ys) x c = ⊎_elim (λ e. omega (arith, ap g e)) (λ t. omega (arith, item_le ys x t)) (contains_cases y ys x c)

pub only-same : (k : ℕ) → only k k ≡ 1
only-same k = ap (λ b. cond b 1 0) (eq-eqb k k refl)

pub below-only : (k n : ℕ) → (below (only k) n ≤ 1) × (n ≤ k → below (only k) n ≡ 0)
below-only k zero = (omega arith, λ _. refl)
below-only k (suc n) =
    let before = below-only k n in
    dite (ℕ_discrete n k)
    (λ e. let none-yet = before.1 (omega arith) in let one : only k n ≡ 1 = ap (λ b. cond b 1 0) (eq-eqb n k e) in (omega arith, λ h. absurd (omega arith)))
    (λ ne. let zero-here : only k n ≡ 0 = ap (λ b. cond b 1 0) (ne_eqb n k ne) in (omega (arith, before.0), λ h. omega (arith, before.1 (omega arith))))

pub below-once : (k n : ℕ) → below (only k) n ≤ 1
below-once k n = (below-only k n).0

pub total-one : (l : List ℕ) → total (λ _. 1) l ≡ length l
total-one [] = refl
total-one (x ∷ xs) = omega (arith, total-one xs)

pub below-one : (n : ℕ) → below (λ _. 1) n ≡ n
below-one zero = refl
below-one (suc n) = omega (arith, below-one n)

pub in_list : (k : ℕ) (c : List ℕ) → Contains c k → 1 ≤ total (only k) c
in_list k c d = omega (arith, item_le (only k) c k d, only-same k)
