use Rattle.std.proofs.Common.{◌≡◌, length, arith}
use Rattle.home_queues.proofs.Gather.{starts, gathers}
use Rattle.home_queues.proofs.closing.gather.Goals as goal

pub loop-right-init : goal.loop-right-init
loop-right-init c = starts _ _ _ c.requires.owners c.requires.row c.requires.meets.0 c.requires.meets.1

pub loop-right-preserved : goal.loop-right-preserved
loop-right-preserved c =
    let at : c.len.result ≡ length c.pop.new.self.items = omega arith in
    gathers c.args.lines c.args.owners.now.items c.loop-right.owners.items c.args.row.items c.loop-right.row.items c.pop.new.self.items c.in-Some.right c.index_mut-owner.result.now c.give_back.new.owner c.len.result
    c.loop-right.invariant c.in-Some.ensures.items at c.index_mut-owner.ensures.value c.give_back.ensures.same.0 c.give_back.ensures.joined
