use Rattle.std.proofs.Common.{◌≡◌, ◌≤◌, ◌^◌, ◌*◌, take}
use Rattle.index_spaces.specs.Space.{space_size}
use Rattle.index_spaces.proofs.space.faults.point_count.Given as goal

abbrev pub invariant-loop-interval : goal.invariant-loop-interval
invariant-loop-interval l = (l.count ≡ space_size (take l.interval-index l.intervals)) × (l.count ≤ l.interval-index * 2 ^ 32)
