use Rattle.std.proofs.Common.{◌+◌, ◌-◌, length}
use Rattle.space_unions.proofs.Merged.{IsMerged}
use Rattle.space_unions.proofs.merging.merged.Given as goal

abbrev pub invariant-loop-a : goal.invariant-loop-a
invariant-loop-a l = IsMerged l.first l.second l.merged.items l.last l.a l.b

abbrev pub decreases-loop-a : goal.decreases-loop-a
decreases-loop-a l = length l.first - l.a + (length l.second - l.b)
