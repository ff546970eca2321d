use Rattle.realm_session.specs.Sessions.{CanAsk}
use Rattle.event_tests.proofs.AskedHandles.{three}
use Rattle.event_tests.proofs.session_thread_tests.asker_of.Goals as goal

pub returns-clause-can_ask : goal.returns-clause-can_ask
returns-clause-can_ask c = let l = c.handle_of.ensures.line in let m = c.handle_of-2.ensures.line in let n = c.handle_of-3.ensures.line in
    three (CanAsk c.asker-seat.result) c.handle_of.result c.handle_of-2.result c.handle_of-3.result
    (l.0, c.asker-seat.ensures.tells l.0 l.2, l.3)
    (m.0, c.asker-seat.ensures.tells m.0 m.2, m.3)
    (n.0, c.asker-seat.ensures.tells n.0 n.2, n.3)
