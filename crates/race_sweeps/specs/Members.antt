-- The members of classes, each with the one before it.
use Rattle.std.specs.Prelude.{◌≡◌, ℕ, ◌<◌, List, length, Option, Some, MatchOption, slice_get}
use Rattle.conflict_classes.specs.Classes.{kept_at}

-- the last member of class c below number m, where there is one
abbrev pub IsLastBelow : List ℕ → ℕ → ℕ → Option ℕ → Type 0
IsLastBelow classes c m found = MatchOption found ((q : ℕ) → q < m → slice_get classes q ≡ Some c → ⊥)
    (λ p. (p < m) × (slice_get classes p ≡ Some c) × ((q : ℕ) → p < q → q < m → slice_get classes q ≡ Some c → ⊥))

-- the members below number m are listed: the last of each class, and before each member the one of its class
pub record AreMembers (classes : List ℕ) (last earlier : List (Option ℕ)) (m : ℕ) : Type 0 where
  pub size : length earlier ≡ m
  pub last_is : (c : ℕ) → c < length last → IsLastBelow classes c m (kept_at last c)
  pub earlier_is : (r c : ℕ) → r < m → slice_get classes r ≡ Some c → IsLastBelow classes c r (kept_at earlier r)
