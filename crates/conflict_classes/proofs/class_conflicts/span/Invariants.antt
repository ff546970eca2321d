use Rattle.std.proofs.Common.{take}
use Rattle.conflict_classes.specs.Spots.{IsSpan}
use Rattle.conflict_classes.proofs.class_conflicts.span.Given as goal

abbrev pub invariant-loop-interval : goal.invariant-loop-interval
invariant-loop-interval l = IsSpan (take l.interval-index l.intervals) l.first l.last
