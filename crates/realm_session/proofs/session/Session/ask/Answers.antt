use Rattle.std.proofs.Common.{◌≢◌, subst, ◌∙◌}
use Rattle.std.specs.Prelude.{Contains}
use Rattle.event_table.specs.declared.handle.Handle.{Handle}
use Rattle.shared_events.specs.Seats.{Knows, no_event}
use Rattle.shared_events.specs.Views.{lists}
use Rattle.realm_session.proofs.Telling.{answers, tells_same}
use Rattle.realm_session.proofs.session.Session.ask.Goals as goal

pub returns-clause-answer : goal.returns-clause-answer
returns-clause-answer c = λ x e t.
    let real : c.args.handle ≢ no_event = λ z. t.real (e ∙ z) in
    answers x.end c.look.result (λ w. c.look.ensures.left real (subst (λ (h : Handle). Contains (lists c.args.seat.now).left h) e (t.left w)))
    (λ f k. c.look.ensures.known f real (subst (λ (h : Handle). Knows (lists c.args.seat.now) h f) e (t.known f k)))

pub returns-clause-tells : goal.returns-clause-tells
returns-clause-tells c = tells_same c.args.seat.now c.look.new.seat c.look.ensures.kept c.look.ensures.same_left
