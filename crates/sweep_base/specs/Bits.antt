-- The bits of words.
use Rattle.std.specs.Prelude.{ℕ, ◌==◌, Bool}
use Rattle.std.specs.Int.{bit_at}

-- the bit of a number below 64 in a word
abbrev pub bit_in : ℕ → ℕ → Bool
bit_in word b = bit_at word b == 1
