-- Numbers that words spell.
use Rattle.std.specs.Prelude.{ℕ, ◌==◌, nat_le, Bool, true, false, cond, not, ◌&&◌, List, [], ◌∷◌, Option, Some, None}
use Rattle.std.specs.Str.{all_ascii_digits}
use Rattle.std.specs.Str.Parse.{digits_value}

-- no byte, or a zero before other digits
abbrev pub is_misspelled : List ℕ → Bool
is_misspelled [] = true
is_misspelled (c ∷ []) = false
is_misspelled (c ∷ d ∷ ds) = c == 48

-- the number that a word spells, where it is at most a limit
abbrev pub number_up_to : ℕ → List ℕ → Option ℕ
number_up_to most w = cond (all_ascii_digits w && (not (is_misspelled w) && nat_le (digits_value 10 w) most)) (Some (digits_value 10 w)) None
