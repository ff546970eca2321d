use Rattle.std.proofs.Common.{ap}
use Rattle.lock_engine.specs.declared.view.View.{View}
use Rattle.lock_engine.specs.Turns.{NextWoken}
use Rattle.lock_engine.proofs.TurnFacts.{turn_woken}
use Rattle.lock_engine.proofs.SeatFacts.{keeps_place}
use Rattle.lock_engine.proofs.calls.next_woken.Goals as goal

pub give_turn-requires-clause-turn : goal.give_turn-requires-clause-turn
give_turn-requires-clause-turn g c = (NextWoken c.next_woken-woken.result, turn_woken c.args.seat.now.me.0 c.take_turn-core.new.seat.me.0 c.take_turn-core.result c.next_woken-woken.new.self c.next_woken-woken.result c.take_turn-core.ensures.view c.requires.idle.line (rw (c.deref_mut.ensures.value, c.core.view_is) at c.next_woken-woken.ensures.some) (rw (c.deref_mut.ensures.value, c.core.view_is) at c.next_woken-woken.ensures.none) (rw (c.deref_mut.ensures.value, c.core.view_is) at c.next_woken-woken.ensures.out) (rw (c.deref_mut.ensures.value, c.core.view_is) at c.next_woken-woken.ensures.works))

pub returns-clause-place : goal.returns-clause-place
returns-clause-place g c =
    let turn = turn_woken c.args.seat.now.me.0 c.take_turn-core.new.seat.me.0 c.take_turn-core.result c.next_woken-woken.new.self c.next_woken-woken.result c.take_turn-core.ensures.view c.requires.idle.line (rw (c.deref_mut.ensures.value, c.core.view_is) at c.next_woken-woken.ensures.some) (rw (c.deref_mut.ensures.value, c.core.view_is) at c.next_woken-woken.ensures.none) (rw (c.deref_mut.ensures.value, c.core.view_is) at c.next_woken-woken.ensures.out) (rw (c.deref_mut.ensures.value, c.core.view_is) at c.next_woken-woken.ensures.works) in
    keeps_place c.args.lock.now.table_id c.args.seat.now c.give_turn.new.seat c.take_turn-core.new.seat.me.0 c.take_turn-core.result c.next_woken-woken.new.self (NextWoken c.next_woken-woken.result) turn c.take_turn-core.ensures.view c.give_turn.ensures.view c.take_turn-core.ensures.graph c.give_turn.ensures.waiting

pub returns-clause-idle : goal.returns-clause-idle
returns-clause-idle g c = ap (λ (v : View). v.line) (c.give_turn.ensures.view (NextWoken c.next_woken-woken.result) (turn_woken c.args.seat.now.me.0 c.take_turn-core.new.seat.me.0 c.take_turn-core.result c.next_woken-woken.new.self c.next_woken-woken.result c.take_turn-core.ensures.view c.requires.idle.line (rw (c.deref_mut.ensures.value, c.core.view_is) at c.next_woken-woken.ensures.some) (rw (c.deref_mut.ensures.value, c.core.view_is) at c.next_woken-woken.ensures.none) (rw (c.deref_mut.ensures.value, c.core.view_is) at c.next_woken-woken.ensures.out) (rw (c.deref_mut.ensures.value, c.core.view_is) at c.next_woken-woken.ensures.works)))
