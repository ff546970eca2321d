use Rattle.std.proofs.Common.{◌≡◌, ℕ, ◌≤◌, length}
use Rattle.std.specs.Prelude.{slice_index}
use Rattle.race_sweeps.specs.Scan.{IsHardTo}
use Rattle.race_sweeps.specs.ScanState.{AreListed}
use Rattle.race_sweeps.proofs.unexempt.harden_all.Given as goal

abbrev pub invariant-loop-group : goal.invariant-loop-group
invariant-loop-group l = record {
  size : length l.hard.items ≡ length l.table.keys.items;
  hard : (end : ℕ) → end ≤ length l.table.lines.items → AreListed l.table l.members (slice_index l.table.begins.items end) → IsHardTo l.graph l.table l.initial.hard.items end → IsHardTo l.graph l.table l.hard.items end;
}
