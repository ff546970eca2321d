use Rattle.std.proofs.Common.{sym, subst}
use Rattle.shared_events.specs.Seats.{HasSeen}
use Rattle.shared_events.specs.Views.{lists}
use Rattle.event_tests.proofs.shared_tests.end_and_leave.Goals as goal

pub returns-clause-seen : goal.returns-clause-seen
returns-clause-seen c = (
  c.leave.ensures.kept.0 _ (c.watch.ensures.kept.0 _ (c.in_ok-pending.ensures.kept.0 _ (subst (HasSeen (lists c.serve.new.seat)) (sym c.handle-past.ensures) c.in_ok-serve.ensures.seen))),
  c.leave.ensures.seen,
)
