use Rattle.std.proofs.Common.{ap}
use Rattle.lock_engine.specs.declared.view.View.{View}
use Rattle.lock_engine.specs.Turns.{PutBack}
use Rattle.lock_engine.proofs.TurnFacts.{turn_put}
use Rattle.lock_engine.proofs.SeatFacts.{still_finished, keeps_place}
use Rattle.lock_engine.proofs.calls.put_back.Goals as goal

pub put_back-requires : goal.put_back-requires
put_back-requires g c = rw (c.deref_mut.ensures.value, c.core.view_is) (still_finished c.args.seat.now.me.0 c.take_turn-core.result c.args.finished c.requires.done c.take_turn-core.ensures.works)

pub give_turn-requires-clause-turn : goal.give_turn-requires-clause-turn
give_turn-requires-clause-turn g c = (PutBack c.args.finished, turn_put c.args.seat.now.me.0 c.take_turn-core.new.seat.me.0 c.take_turn-core.result c.put_back.new.self c.args.finished c.take_turn-core.ensures.view (still_finished c.args.seat.now.me.0 c.take_turn-core.result c.args.finished c.requires.done c.take_turn-core.ensures.works) c.requires.done.0 (rw (c.deref_mut.ensures.value, c.core.view_is) at c.put_back.ensures.put) (rw (c.deref_mut.ensures.value, c.core.view_is) at c.put_back.ensures.out) (rw (c.deref_mut.ensures.value, c.core.view_is) at c.put_back.ensures.works))

pub returns-clause-place : goal.returns-clause-place
returns-clause-place g c =
    let turn = turn_put c.args.seat.now.me.0 c.take_turn-core.new.seat.me.0 c.take_turn-core.result c.put_back.new.self c.args.finished c.take_turn-core.ensures.view (still_finished c.args.seat.now.me.0 c.take_turn-core.result c.args.finished c.requires.done c.take_turn-core.ensures.works) c.requires.done.0 (rw (c.deref_mut.ensures.value, c.core.view_is) at c.put_back.ensures.put) (rw (c.deref_mut.ensures.value, c.core.view_is) at c.put_back.ensures.out) (rw (c.deref_mut.ensures.value, c.core.view_is) at c.put_back.ensures.works) in
    keeps_place c.args.lock.now.table_id c.args.seat.now c.give_turn.new.seat c.take_turn-core.new.seat.me.0 c.take_turn-core.result c.put_back.new.self (PutBack c.args.finished) turn c.take_turn-core.ensures.view c.give_turn.ensures.view c.take_turn-core.ensures.graph c.give_turn.ensures.waiting

pub returns-clause-idle : goal.returns-clause-idle
returns-clause-idle g c = ap (λ (v : View). v.line) (c.give_turn.ensures.view (PutBack c.args.finished) (turn_put c.args.seat.now.me.0 c.take_turn-core.new.seat.me.0 c.take_turn-core.result c.put_back.new.self c.args.finished c.take_turn-core.ensures.view (still_finished c.args.seat.now.me.0 c.take_turn-core.result c.args.finished c.requires.done c.take_turn-core.ensures.works) c.requires.done.0 (rw (c.deref_mut.ensures.value, c.core.view_is) at c.put_back.ensures.put) (rw (c.deref_mut.ensures.value, c.core.view_is) at c.put_back.ensures.out) (rw (c.deref_mut.ensures.value, c.core.view_is) at c.put_back.ensures.works)))
