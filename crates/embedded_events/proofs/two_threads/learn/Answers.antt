use Rattle.std.proofs.Common.{sym, subst}
use Rattle.shared_events.specs.Seats.{HasSeen}
use Rattle.shared_events.specs.Views.{lists}
use Rattle.embedded_events.proofs.two_threads.learn.Goals as goal

pub returns-clause-seen : goal.returns-clause-seen
returns-clause-seen c = c.look-answer.ensures.kept.0 _ (subst (HasSeen (lists c.learn.new.seat)) (sym c.handle-handle.ensures) c.learn.ensures.seen)
