-- Where one item has the whole weight of a list.
use Rattle.std.proofs.Common.{◌≡◌, ℕ, zero, suc, ◌<◌, List, [], ◌∷◌, length, sym, refl, ap, arith}
use mathlib.Core.Option.{some, some-injective, some-ne-none}
use lib.ListN.{get_elem?}
use Rattle.basics.specs.Sums.{total}
use Rattle.basics.proofs.Sums.{term_le}

module _ {A : Type 0} where
  pub there_below : (l : List A) (j : ℕ) (v : A) → get_elem? l j ≡ some v → j < length l
  there_below [] j v e = absurd (some-ne-none v (sym e))
  there_below (x ∷ xs) zero v e = omega arith
  there_below (x ∷ xs) (suc j) v e = omega (arith, there_below xs j v e)

  total_none : (f g : A → ℕ) (l : List A) → total g l ≡ 0 → ((k : ℕ) (u : A) → get_elem? l k ≡ some u → g u ≡ 0 → f u ≡ 0) → total f l ≡ 0
  total_none f g [] z h = refl
  total_none f g (x ∷ xs) z h =
      let a : f x ≡ 0 = h 0 x refl (omega arith) in
      let b : total f xs ≡ 0 = total_none f g xs (omega arith) (λ k u e. h (suc k) u e) in omega arith

  -- where one item has all of one weight, and the items without it have none of another, it has all of the other
  pub total_one : (f g : A → ℕ) (l : List A) (j : ℕ) (v : A) → get_elem? l j ≡ some v → total g l ≡ g v → ((k : ℕ) (u : A) → get_elem? l k ≡ some u → g u ≡ 0 → f u ≡ 0) → total f l ≡ f v
  total_one f g [] j v e w h = absurd (some-ne-none v (sym e))
  total_one f g (x ∷ xs) zero v e w h =
      let same : x ≡ v = some-injective x v e in
      let gs : g x ≡ g v = ap g same in
      let rest : total f xs ≡ 0 = total_none f g xs (omega arith) (λ k u e'. h (suc k) u e') in omega (arith, ap f same)
  total_one f g (x ∷ xs) (suc j) v e w h =
      let most = term_le g xs j v e in
      let first : f x ≡ 0 = h 0 x refl (omega arith) in
      let rest : total f xs ≡ f v = total_one f g xs j v e (omega arith) (λ k u e'. h (suc k) u e') in omega arith
