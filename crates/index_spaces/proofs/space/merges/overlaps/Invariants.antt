use Rattle.std.proofs.Common.{◌+◌, ◌-◌, length}
use Rattle.index_spaces.proofs.MergeFacts.{IsShared, next_overlap}
use Rattle.index_spaces.proofs.space.merges.overlaps.Given as goal

abbrev pub invariant-loop-a : goal.invariant-loop-a
invariant-loop-a l = IsShared l.first l.second l.shared.items l.a l.b (next_overlap l.first l.second l.a l.b)

abbrev pub decreases-loop-a : goal.decreases-loop-a
decreases-loop-a l = length l.first - l.a + (length l.second - l.b)
