use Rattle.std.proofs.Common.{arith}
use Rattle.home_queues.specs.Opening.{first_shares}
use Rattle.home_queues.proofs.Opened.{row_starts, row_grows}
use Rattle.home_queues.proofs.opening.new_row.Goals as goal

pub loop-k-init : goal.loop-k-init
loop-k-init c = row_starts _ _ _ _ c.requires.fresh.0 c.in_ok-row.ensures.items

pub loop-k-preserved : goal.loop-k-preserved
loop-k-preserved c =
    let s = c.in_ok-new_right.ensures in
    row_grows c.args.lines (first_shares c.args.owners.now.items) c.loop-k.k c.args.owners.now.items c.loop-k.owners.items c.loop-k.row.items c.push.new.self.items c.index_mut-owner.result.now c.new_right.new.owner c.in_ok-new_right.field-0
    c.loop-k.invariant (omega arith) c.index_mut-owner.ensures.value c.new_right.ensures.same.0 c.new_right.ensures.same.1 s.cut s.at.0 s.at.1 s.share c.in_ok-push.ensures.items
