-- What contracts see of a tally.
use Rattle.std.specs.Prelude.{ℕ, slice_index, sum_by}
use Rattle.home_queues.specs.declared.tally.Tally.{Tally}

abbrev pub lines_in : Tally → ℕ
lines_in t = t.lines

-- how often the number was put in and taken by all parts, and how often it is left
abbrev pub pushed_in : Tally → ℕ → ℕ
pushed_in t x = sum_by (λ p. slice_index p.pushed.each x) t.parts.items

abbrev pub taken_in : Tally → ℕ → ℕ
taken_in t x = sum_by (λ p. slice_index p.taken.each x) t.parts.items

abbrev pub left_in : Tally → ℕ → ℕ
left_in t x = slice_index t.left.each x
