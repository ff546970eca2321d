-- Rows of bits, 64 to a word.
use Rattle.std.specs.Prelude.{◌≡◌, ℕ, ◌+◌, ◌-◌, ◌<◌, ◌/◌, ◌%◌, ◌==◌, ◌&&◌, nat_le, not, Bool, true, false, List, slice_index}
use Rattle.std.specs.Int.{bit_at}

-- the bit of a number in a row of words
abbrev pub word_bit : List ℕ → ℕ → Bool
word_bit words j = bit_at (slice_index words (j / 64)) (j % 64) == 1

-- no number below this one has its bit set
abbrev pub AreNoneBelow : List ℕ → ℕ → Type 0
AreNoneBelow words low = (j : ℕ) → j < low → word_bit words j ≡ false

-- so many words at the front have all bits
abbrev pub AreFull : List ℕ → ℕ → Type 0
AreFull words full = (w : ℕ) → w < full → slice_index words w ≡ 18446744073709551615

-- the only number below a bound whose bit is set
pub record IsOnly (words : List ℕ) (bound line : ℕ) : Type 0 where
  pub below : line < bound
  pub set : word_bit words line ≡ true
  pub lower : (j : ℕ) → j < line → word_bit words j ≡ false
  pub higher : (j : ℕ) → line < j → j < bound → word_bit words j ≡ false

-- the bit of a number that is set in one row and not in another
abbrev pub is_shown : List ℕ → List ℕ → ℕ → Bool
is_shown words hidden j = word_bit words j && not (word_bit hidden j)

-- a word has the bits that are shown of a number and of those below it with the same place in the rows
abbrev pub IsShownWord : List ℕ → List ℕ → ℕ → ℕ → Type 0
IsShownWord words hidden last word = (i : ℕ) → i < 64 → (bit_at word i == 1) ≡ (nat_le i (last % 64) && is_shown words hidden (last - last % 64 + i))
