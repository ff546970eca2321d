use Rattle.std.proofs.Common.{sym, subst}
use Rattle.realm_session.specs.Recorded.{IsRecorded}
use Rattle.event_tests.proofs.asking.graph_answers.Goals as goal

pub answer_so-agrees-requires-clause-tells : goal.answer_so-agrees-requires-clause-tells
answer_so-agrees-requires-clause-tells c = λ x d. c.asker-seat.ensures.tells x (subst (λ r. IsRecorded r x) c.asker-seat.ensures.same d)
