use Rattle.std.proofs.Common.{◌+◌}
use Rattle.space_unions.proofs.Merged.{runs_up, take_first, swapped}
use Rattle.space_unions.proofs.merging.merged.Goals as goal

pub absorb-requires-clause-next : goal.absorb-requires-clause-next
absorb-requires-clause-next c =
    let next = c.is_first_next-in-loop-a.ensures.first c.if-is_first_next-2.true in
    (c.loop-a.invariant.first next.there, runs_up 0 c.args.first.now c.loop-a.a c.requires.first.1 next.there)

pub loop-a-preserved-then-is_first_next-2 : goal.loop-a-preserved-then-is_first_next-2
loop-a-preserved-then-is_first_next-2 c =
    take_first c.args.first.now c.args.second.now c.loop-a.merged.items c.absorb.new.merged.items c.loop-a.last c.in_ok-last.last c.loop-a.a c.loop-a.b c.requires.first c.loop-a.invariant
    (c.is_first_next-in-loop-a.ensures.first c.if-is_first_next-2.true) c.in_ok-last.ensures

pub absorb-requires-else-is_first_next-2-clause-next : goal.absorb-requires-else-is_first_next-2-clause-next
absorb-requires-else-is_first_next-2-clause-next c =
    let next = c.is_first_next-in-loop-a.ensures.second c.if-is_first_next-2.false in
    (c.loop-a.invariant.second next.there, runs_up 0 c.args.second.now c.loop-a.b c.requires.second.1 next.there)

pub loop-a-preserved : goal.loop-a-preserved
loop-a-preserved c =
    swapped c.args.second.now c.args.first.now c.absorb-else-is_first_next-2.new.merged.items c.in_ok-last-2.last (c.loop-a.b + 1) c.loop-a.a
    (take_first c.args.second.now c.args.first.now c.loop-a.merged.items c.absorb-else-is_first_next-2.new.merged.items c.loop-a.last c.in_ok-last-2.last c.loop-a.b c.loop-a.a c.requires.second
    (swapped c.args.first.now c.args.second.now c.loop-a.merged.items c.loop-a.last c.loop-a.a c.loop-a.b c.loop-a.invariant)
    (c.is_first_next-in-loop-a.ensures.second c.if-is_first_next-2.false) c.in_ok-last-2.ensures)
