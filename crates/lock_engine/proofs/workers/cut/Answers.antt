use Rattle.std.proofs.Common.{arith, sym, subst, ◌<◌}
use Rattle.lock_engine.specs.declared.view.View.{View}
use Rattle.lock_engine.proofs.RuleFacts.{cuts_split}
use Rattle.lock_engine.proofs.workers.cut.Goals as goal

pub split_seat-other-requires : goal.split_seat-other-requires
split_seat-other-requires c =
    let seat = c.take_seat-seat.result in
    let waiting = c.take_seat-seat.ensures.waiting c.args.lock.now.table_id c.requires.resting in
    (waiting.at.table, omega (arith, waiting.at.words), cuts_split c.args.lock.now.key seat.id seat.me.0 (subst (λ (v : View). 1 < v.parts) (sym c.take_seat-seat.ensures.view) c.requires.enough))
