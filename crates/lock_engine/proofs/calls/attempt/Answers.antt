use Rattle.std.proofs.Common.{◌<◌, length, sym, subst}
use Rattle.graph_terms.specs.Graph.{GraphValue}
use Rattle.lock_engine.specs.Turns.{Attempt, work_in}
use Rattle.lock_engine.proofs.TurnFacts.{turn_attempt, taken_work}
use Rattle.lock_engine.proofs.SeatFacts.{keeps_place, has_work}
use Rattle.lock_engine.proofs.calls.attempt.Goals as goal

pub give_turn-requires-clause-turn : goal.give_turn-requires-clause-turn
give_turn-requires-clause-turn g c = (Attempt c.args.line c.attempt-answer.result, turn_attempt c.args.seat.now.me.0 c.take_turn-core.new.seat.me.0 c.take_turn-core.result c.attempt-answer.new.self c.args.line c.attempt-answer.result c.take_turn-core.ensures.view c.requires.idle.line (subst (λ (h : GraphValue). c.args.line < length h.lines) (sym c.take_turn-core.ensures.graph) c.requires.line) (rw (c.deref_mut.ensures.value, c.core.view_is) at c.attempt-answer.ensures.answer) (rw (c.deref_mut.ensures.value, c.core.view_is) at c.attempt-answer.ensures.out) (rw (c.deref_mut.ensures.value, c.core.view_is) at c.attempt-answer.ensures.works))

pub returns-clause-place : goal.returns-clause-place
returns-clause-place g c =
    let turn = turn_attempt c.args.seat.now.me.0 c.take_turn-core.new.seat.me.0 c.take_turn-core.result c.attempt-answer.new.self c.args.line c.attempt-answer.result c.take_turn-core.ensures.view c.requires.idle.line (subst (λ (h : GraphValue). c.args.line < length h.lines) (sym c.take_turn-core.ensures.graph) c.requires.line) (rw (c.deref_mut.ensures.value, c.core.view_is) at c.attempt-answer.ensures.answer) (rw (c.deref_mut.ensures.value, c.core.view_is) at c.attempt-answer.ensures.out) (rw (c.deref_mut.ensures.value, c.core.view_is) at c.attempt-answer.ensures.works) in
    keeps_place c.args.lock.now.table_id c.args.seat.now c.give_turn.new.seat c.take_turn-core.new.seat.me.0 c.take_turn-core.result c.attempt-answer.new.self (Attempt c.args.line c.attempt-answer.result) turn c.take_turn-core.ensures.view c.give_turn.ensures.view c.take_turn-core.ensures.graph c.give_turn.ensures.waiting

pub returns-clause-work : goal.returns-clause-work
returns-clause-work g c =
    let turn = turn_attempt c.args.seat.now.me.0 c.take_turn-core.new.seat.me.0 c.take_turn-core.result c.attempt-answer.new.self c.args.line c.attempt-answer.result c.take_turn-core.ensures.view c.requires.idle.line (subst (λ (h : GraphValue). c.args.line < length h.lines) (sym c.take_turn-core.ensures.graph) c.requires.line) (rw (c.deref_mut.ensures.value, c.core.view_is) at c.attempt-answer.ensures.answer) (rw (c.deref_mut.ensures.value, c.core.view_is) at c.attempt-answer.ensures.out) (rw (c.deref_mut.ensures.value, c.core.view_is) at c.attempt-answer.ensures.works) in
    let after = c.attempt-answer.new.self in
    has_work c.give_turn.new.seat.me.0 c.take_turn-core.new.seat.me.0 after (work_in c.attempt-answer.result) (c.give_turn.ensures.view (Attempt c.args.line c.attempt-answer.result) turn) (rw c.deref.ensures at c.is_sound.ensures.sound) (taken_work c.take_turn-core.result after c.args.line c.attempt-answer.result (rw (c.deref_mut.ensures.value, c.core.view_is) at c.attempt-answer.ensures.answer))
