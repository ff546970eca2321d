use Rattle.std.proofs.Common.{◌≡◌, ◌+◌, ◌-◌, ◌<◌, ℕ, length}
use Rattle.std.specs.Prelude.{slice_index}
use Rattle.race_check.proofs.line_sections.numbers_from.Given as goal

abbrev pub invariant-loop-line : goal.invariant-loop-line
invariant-loop-line l = record { size : length l.numbers.items ≡ l.line - l.first; each : (b : ℕ) → b < l.line - l.first → slice_index l.numbers.items b ≡ l.first + b }
