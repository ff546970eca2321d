use Rattle.realm_session.specs.declared.line.Line.{Line}
use Rattle.realm_session.specs.Recorded.{IsRecorded}
use Rattle.realm_session.specs.Sessions.{recorded_by, IsSeatOf, Tells}
use Rattle.event_tests.proofs.asking.answer_so.Given as goal

abbrev pub invariant-loop-line : goal.invariant-loop-line
invariant-loop-line l = record {
  at : IsSeatOf l.session l.seat;
  tells : (x : Line) → IsRecorded (recorded_by l.recorder) x → Tells l.seat x;
}
