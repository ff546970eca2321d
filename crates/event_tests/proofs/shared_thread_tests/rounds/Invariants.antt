use Rattle.std.specs.Prelude.{All, IfSome}
use Rattle.shared_events.specs.Seats.{HasSeen}
use Rattle.shared_events.specs.Views.{lists, IsAt, IsMakerOf, IsReceiptOf}
use Rattle.event_tests.proofs.shared_thread_tests.rounds.Given as goal

abbrev pub invariant-loop-round : goal.invariant-loop-round
invariant-loop-round g l = record {
  maker : IsMakerOf l.events l.writer.maker;
  writer : IsAt l.events l.writer.seat;
  reader : IsAt l.events l.reader.seat;
  seen : All (HasSeen (lists l.reader.seat)) l.reader.handles.items;
  last : IfSome l.last (λ r. IsReceiptOf l.events r);
}
