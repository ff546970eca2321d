-- Numbers in a round.
use Rattle.std.specs.Prelude.{ℕ, ◌-◌, ◌++◌, min, List}
use Rattle.std.specs.List.{range_with_len}

-- each number below a bound once, from `first` on, and then those before it
abbrev pub round_of : ℕ → ℕ → List ℕ
round_of lines first = range_with_len first (lines - first) ++ range_with_len 0 (min first lines)
