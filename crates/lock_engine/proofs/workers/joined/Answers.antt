use Rattle.std.proofs.Common.{arith, ap, ◌∙◌}
use Rattle.lock_engine.specs.declared.view.View.{View}
use Rattle.lock_engine.proofs.RuleFacts.{joins_join}
use Rattle.lock_engine.proofs.workers.joined.Goals as goal

pub join_seat-requires : goal.join_seat-requires
join_seat-requires c =
    let seat = c.take_seat-seat.result in
    let other = c.take_seat-other.result in
    let one = c.take_seat-seat.ensures.waiting c.args.lock.now.table_id c.requires.resting.0 in
    let two = c.take_seat-other.ensures.waiting c.args.lock.now.table_id c.requires.resting.1 in
    (one.at.table, two.at.table, two.hand, omega (arith, one.at.words), joins_join c.args.lock.now.key seat.id seat.me.0 other.id other.me.0 one.at.parts (ap (λ (v : View). v.line) c.take_seat-other.ensures.view ∙ c.requires.idle.1) two.turn)
