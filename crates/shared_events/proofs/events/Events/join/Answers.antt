use Rattle.std.proofs.Common.{rules, arith, ap, ◌∙◌}
use Rattle.shared_events.proofs.Cuts.{joins}
use Rattle.shared_events.proofs.Steps.{heeds}
use Rattle.shared_events.proofs.Growing.{joins_keep}
use Rattle.shared_events.proofs.events.Events.join.Goals as goal

pub join_seat-requires : goal.join_seat-requires
join_seat-requires c = let e = c.args.self.now.sized in (search rules, search rules, search rules, omega (arith, e.1, e.2), joins _ _ _ _ _ (search rules))

pub load-requires : goal.load-requires
load-requires c = let e = c.args.self.now.sized in (search rules, omega (arith, e.1, e.2), heeds _ _ _ _ _)

pub returns-clause-kept : goal.returns-clause-kept
returns-clause-kept c = joins_keep c.args.seat.now.inner.me.0 c.args.other.inner.me.0 c.load.new.seat.me.0 (ap (λ m. m.0.seen) c.load.ensures.2.0 ∙ ap (λ m. m.0.seen) c.join_seat.ensures.2) (ap (λ m. m.0.known) c.load.ensures.2.0 ∙ ap (λ m. m.0.known) c.join_seat.ensures.2)
