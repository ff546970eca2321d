use Rattle.std.proofs.Common.{◌≡◌, ℕ, ◌<◌, false}
use Rattle.sweep_base.specs.Noted.{is_noted}
use Rattle.race_pairs.proofs.races.unnoted_lines.Given as goal

abbrev pub invariant-loop-line : goal.invariant-loop-line
invariant-loop-line l = record { none : (i : ℕ) → i < l.line → is_noted l.racing i ≡ false }
