-- The items of a list, one by one.
use Rattle.std.proofs.Common.{◌≡◌, ◌≢◌, ℕ, ◌⊎◌, List, set, refl, subst, inl, inr, ⊎_elim}
use mathlib.Core.Option.{some}
use lib.ListN.{get_elem?}
use Rattle.atomic_table.proofs.Lists.{at_set}

module _ {A : Type 0} where
  -- what holds of the item that is set, and of each other that is there, holds of each that is there then
  pub set_cases : (P : A → Type 0) (xs : List A) (i : ℕ) (x : A) (j : ℕ) (y : A) → get_elem? (set xs i x) j ≡ some y → P x → (j ≢ i → get_elem? xs j ≡ some y → P y) → P y
  set_cases P xs i x j y e here there = ⊎_elim (λ (t : (j ≡ i) × (x ≡ y)). subst P t.1 here) (λ (t : (j ≢ i) × (get_elem? xs j ≡ some y)). there t.0 t.1) (at_set xs i j x y e)
