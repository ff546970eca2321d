use Rattle.std.proofs.Common.{sym, subst}
use Rattle.shared_events.specs.Seats.{HasSeen}
use Rattle.shared_events.specs.Views.{lists}
use Rattle.embedded_events.proofs.two_threads.ask_both.Goals as goal

pub look-old-requires-clause-seen : goal.look-old-requires-clause-seen
look-old-requires-clause-seen c = c.join.ensures.kept.0.0 _ c.requires.told.1

pub look-new-requires-clause-seen : goal.look-new-requires-clause-seen
look-new-requires-clause-seen c = c.look-old.ensures.kept.0 _
    (subst (HasSeen (lists c.join.new.seat)) (sym c.handle-second.ensures) (c.join.ensures.kept.1.0 _ c.requires.other.1))
