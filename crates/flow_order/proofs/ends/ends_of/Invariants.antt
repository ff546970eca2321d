use Rattle.std.proofs.Common.{◌≡◌, take}
use Rattle.flow_order.proofs.EndSteps.{AreWithin}
use Rattle.flow_order.proofs.ends.ends_of.Given as goal

abbrev pub invariant-loop-interval : goal.invariant-loop-interval
invariant-loop-interval l = record {
  items : l.interval-items ≡ l.space;
  within : AreWithin (take l.interval-index l.interval-items) l.low l.high;
}
