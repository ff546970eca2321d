use Rattle.std.proofs.Common.{rules, arith, ap, inr}
use Rattle.shared_events.proofs.Growing.{joins_keep}
use Rattle.shared_events.proofs.Cuts.{forsakes}
use Rattle.shared_events.proofs.Takes.{alone}
use Rattle.shared_events.proofs.events.Events.leave.Goals as goal

pub join_seat-requires : goal.join_seat-requires
join_seat-requires c = let e = c.args.self.now.sized in (search rules, search rules, search rules, omega (arith, e.1, e.2), forsakes _ _ _ _ _ c.args.pending.pending.1)

pub returns-clause-left : goal.returns-clause-left
returns-clause-left c = alone _ _ _ _ (ap (λ m. m.0.left) c.join_seat.ensures.2) c.args.pending.pending.0.2

pub returns-clause-kept : goal.returns-clause-kept
returns-clause-kept c = (joins_keep c.args.seat.now.inner.me.0 c.args.pending.inner.me.0 c.join_seat.new.seat.me.0 (ap (λ m. m.0.seen) c.join_seat.ensures.2) (ap (λ m. m.0.known) c.join_seat.ensures.2)).0

pub returns-clause-seen : goal.returns-clause-seen
returns-clause-seen c = record { seen = inr (alone _ _ _ _ (ap (λ m. m.0.seen) c.join_seat.ensures.2) c.args.pending.pending.4) }
