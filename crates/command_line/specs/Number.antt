-- Numbers that words spell.
use Rattle.std.specs.Prelude.{ℕ, ◌&&◌, nat_le, cond, List, Option, Some, None, option_and_then}
use Rattle.basics.specs.Numbers.{number_up_to}

-- the number below 2^64 that a word spells
abbrev pub number_of : List ℕ → Option ℕ
number_of word = number_up_to 18446744073709551615 word

-- a number between two bounds
abbrev pub between : ℕ → ℕ → ℕ → Option ℕ
between least most n = cond (nat_le least n && nat_le n most) (Some n) None

-- the number between two bounds that a word spells
abbrev pub number_between : ℕ → ℕ → List ℕ → Option ℕ
number_between least most word = option_and_then (between least most) (number_of word)
