-- Words, as they stand between spaces and newlines.
use Rattle.std.specs.Prelude.{ℕ, ◌^◌, ◌<◌, ◌≤◌, List, [], ◌∷◌, ◌≡◌, false, true, Bool, not, ◌&&◌, nat_le}
use Rattle.std.specs.List.{AllByRecursion, list_all}

abbrev pub is_empty : List ℕ → Bool
is_empty [] = true
is_empty (b ∷ bs) = false

-- each byte is at least m
abbrev pub AtLeast : ℕ → List ℕ → Type 0
AtLeast m w = AllByRecursion (λ b. m ≤ b) w

-- a word: at least a byte, and neither spaces nor newlines
pub record IsWord (w : List ℕ) : Type 0 where
  pub some : is_empty w ≡ false
  pub printed : AtLeast 44 w

-- a word by a test that computes
abbrev pub is_word : List ℕ → Bool
is_word w = not (is_empty w) && list_all (nat_le 44) w

-- the ends of an interval are numbers of points
abbrev pub IsInterval : ℕ × ℕ → Type 0
IsInterval i = (i.0 < 2 ^ 32) × (i.1 < 2 ^ 32)
