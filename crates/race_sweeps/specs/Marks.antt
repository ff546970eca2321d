-- Marks of classes with lines.
use Rattle.std.specs.Prelude.{◌≡◌, ℕ, ◌<◌, ◌≤◌, true, List, Contains}
use Rattle.sweep_base.specs.Bits.{bit_in}
use Rattle.race_sweeps.specs.declared.marks.Mark.{Mark}

-- a class is marked with line b of a slice, from place x or a place before it on
pub record IsMarked (marks : List Mark) (c b x : ℕ) : Type 0 where
  pub mark : Mark
  pub kept : Contains marks mark
  pub class : mark.class ≡ c
  pub bit : bit_in mark.word b ≡ true
  pub floor : mark.floor ≤ x

-- the marks are of classes below a number
abbrev pub AreMarksBelow : List Mark → ℕ → Type 0
AreMarksBelow marks n = (m : Mark) → Contains marks m → m.class < n
