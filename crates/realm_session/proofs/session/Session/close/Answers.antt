use Rattle.std.proofs.Common.{⊎_elim, subst}
use Rattle.std.specs.Prelude.{Contains}
use Rattle.basics.proofs.ListFacts.{map_contains}
use Rattle.event_table.specs.EventMap.{answer}
use Rattle.realm_session.specs.Recorded.{handle_in, lines_in}
use Rattle.realm_session.proofs.Telling.{closes}
use Rattle.realm_session.proofs.session.Session.close.Goals as goal

pub returns-clause-created : goal.returns-clause-created
returns-clause-created c = λ x d. c.close.ensures.seen x.handle (c.requires.recorder.tells x d).seen

pub returns-clause-answers : goal.returns-clause-answers
returns-clause-answers c = λ x d. let t = c.requires.recorder.tells x d in
    closes x.end (answer c.close.result x.handle) (λ w. c.close.ensures.left x.handle (t.left w)) (λ f k. c.close.ensures.known x.handle f (t.known f k))

pub returns-clause-only : goal.returns-clause-only
returns-clause-only c = λ h d real. ⊎_elim (λ e. absurd (real e))
    (λ a. map_contains handle_in (lines_in c.args.recorder.graphs.items) h (subst (λ l. Contains l h) c.requires.recorder.made (c.close.ensures.only h a.0 a.1))) d.created
