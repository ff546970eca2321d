use Rattle.std.proofs.Common.{subst}
use Rattle.realm_session.specs.Recorded.{RecordedGraphs, IsRecorded}
use Rattle.session_run.proofs.running.Running.link.Goals as goal

pub add_links-linked-requires-clause-tells : goal.add_links-linked-requires-clause-tells
add_links-linked-requires-clause-tells c = λ x h. c.asker-seat.ensures.tells x (subst (λ (r : RecordedGraphs). IsRecorded r x) c.asker-seat.ensures.same h)
