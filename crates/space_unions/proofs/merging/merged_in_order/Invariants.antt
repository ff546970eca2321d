use Rattle.space_unions.proofs.InOrder.{IsMergedTo}
use Rattle.space_unions.proofs.merging.merged_in_order.Given as goal

abbrev pub invariant-loop-interval : goal.invariant-loop-interval
invariant-loop-interval l = IsMergedTo l.intervals l.merged.items l.last l.interval-index
