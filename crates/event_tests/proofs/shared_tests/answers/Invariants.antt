use Rattle.shared_events.specs.Seats.{Keeps}
use Rattle.shared_events.specs.Views.{lists, IsAt}
use Rattle.event_tests.proofs.shared_tests.answers.Given as goal

abbrev pub invariant-loop-handle : goal.invariant-loop-handle
invariant-loop-handle l = record {
  at : IsAt l.events l.seat;
  kept : Keeps (lists l.fn.seat) (lists l.seat);
}
