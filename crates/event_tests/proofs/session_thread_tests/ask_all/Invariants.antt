use Rattle.std.specs.List.{AllWithin}
use Rattle.realm_session.specs.Sessions.{IsSeatOf, CanAsk}
use Rattle.event_tests.proofs.session_thread_tests.ask_all.Given as goal

abbrev pub invariant-loop-turn : goal.invariant-loop-turn
invariant-loop-turn l = record {
  at : IsSeatOf l.session l.asker.seat;
  can_ask : AllWithin (CanAsk l.asker.seat) l.asker.handles 0 3;
}
