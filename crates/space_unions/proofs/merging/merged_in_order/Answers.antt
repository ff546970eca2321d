use Rattle.std.proofs.Common.{ℕ, get_or, arith}
use Rattle.std.proofs.lemmas.List.Elements.{Contains-get_or}
use Rattle.space_unions.proofs.InOrder.{none_merged, one_merged}
use Rattle.space_unions.proofs.merging.merged_in_order.Goals as goal

pub loop-interval-init : goal.loop-interval-init
loop-interval-init c = rw c.new-merged.ensures.items (none_merged c.args.intervals.now c.requires.some c.requires.run_up c.requires.sorted)

pub absorb-requires-clause-next : goal.absorb-requires-clause-next
absorb-requires-clause-next c = (
  c.loop-interval.invariant.later c.loop-interval.interval-index (omega arith) c.loop-interval-test.true,
  c.requires.run_up (get_or c.args.intervals.now c.loop-interval.interval-index (0, 0)) (Contains-get_or c.args.intervals.now c.loop-interval.interval-index (0, 0) c.loop-interval-test.true),
)

pub loop-interval-preserved : goal.loop-interval-preserved
loop-interval-preserved c =
    one_merged c.args.intervals.now c.loop-interval.merged.items c.absorb.new.merged.items c.loop-interval.last c.in_ok-last.last c.loop-interval.interval-index c.requires.sorted c.loop-interval-test.true c.loop-interval.invariant c.in_ok-last.ensures
