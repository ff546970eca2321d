use Rattle.std.proofs.Common.{arith, Some, ap, ◌∙◌}
use Rattle.lock_engine.proofs.RuleFacts.{turns_allow, hand_shape, has_found}
use Rattle.lock_engine.proofs.lock.try_turn.Goals as goal

pub compare_exchange-requires : goal.compare_exchange-requires
compare_exchange-requires c =
    let w = c.requires.waiting in
    let seat = c.args.seat.now in
    (w.at.table, omega (arith, w.at.words), turns_allow c.args.lock.now.key c.args.lock.now.table_id.slots seat.id seat.me.0 seat.me.1 w.hand w.at.parts)

pub exchange-requires : goal.exchange-requires
exchange-requires c =
    let e = c.compare_exchange.ensures in
    let seat = c.compare_exchange.new.seat in
    let h = has_found c.args.seat.now.me seat.me c.compare_exchange.result e.2 c.if-compare_exchange-eq0.true in
    (e.0 ∙ c.requires.waiting.at.table, hand_shape seat.me.1 (Some h.core) (ap (λ m. m.1) h.now))
