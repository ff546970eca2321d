use Rattle.std.specs.Prelude.{All}
use Rattle.shared_events.specs.Seats.{HasSeen}
use Rattle.shared_events.specs.Views.{lists, IsAt, IsMakerOf}
use Rattle.event_tests.proofs.shared_tests.serve_many.Given as goal

abbrev pub invariant-loop-round : goal.invariant-loop-round
invariant-loop-round l = record {
  maker : IsMakerOf l.events l.maker;
  at : IsAt l.events l.seat;
  seen : All (HasSeen (lists l.seat)) l.handles.items;
}
