use Rattle.std.proofs.Common.{◌≡◌, ◌++◌, map, take}
use Rattle.space_classes.specs.Spans.{span_of}
use Rattle.space_classes.proofs.spans.add_spans.Given as goal

abbrev pub invariant-loop-interval : goal.invariant-loop-interval
invariant-loop-interval l = l.spans.items ≡ l.initial.spans.items ++ map (span_of l.owner) (take l.interval-index l.intervals)
