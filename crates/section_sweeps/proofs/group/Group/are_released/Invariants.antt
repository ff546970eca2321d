use Rattle.std.proofs.Common.{ℕ, ◌<◌}
use Rattle.section_sweeps.specs.Group.{IsReleased}
use Rattle.section_sweeps.proofs.group.Group.are_released.Given as goal

abbrev pub invariant-loop-bit : goal.invariant-loop-bit
invariant-loop-bit l = (b : ℕ) → b < l.bit → IsReleased l.graph l.table.places.items l.self.acquires.items l.high b
