use Rattle.std.proofs.Common.{rules, arith, ap}
use Rattle.shared_events.proofs.Cuts.{joins, splits, reports}
use Rattle.shared_events.proofs.Growing.{joins_keep}
use Rattle.shared_events.proofs.events.Events.report.Goals as goal

pub split_seat-news-requires : goal.split_seat-news-requires
split_seat-news-requires c = let e = c.args.self.now.sized in (c.requires.maker.0, omega (arith, e.1, e.2), splits _ _ _ _ _ (reports _))

pub join_seat-requires : goal.join_seat-requires
join_seat-requires c = let e = c.args.self.now.sized in (search rules, search rules, ap (λ m. m.1) c.split_seat-news.ensures.4, omega (arith, e.1, e.2), joins _ _ _ _ _ (ap (λ m. m.0.caught) c.split_seat-news.ensures.4))

pub returns-clause-kept : goal.returns-clause-kept
returns-clause-kept c = (joins_keep c.args.seat.now.inner.me.0 c.split_seat-news.result.me.0 c.join_seat.new.seat.me.0 (ap (λ m. m.0.seen) c.join_seat.ensures.2) (ap (λ m. m.0.known) c.join_seat.ensures.2)).0
