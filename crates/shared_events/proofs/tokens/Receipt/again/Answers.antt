use Rattle.std.proofs.Common.{rules, arith}
use Rattle.shared_events.proofs.Cuts.{splits, copies}
use Rattle.shared_events.proofs.tokens.Receipt.again.Goals as goal

pub split_seat-inner-requires : goal.split_seat-inner-requires
split_seat-inner-requires c = let e = c.args.events.now.sized in (search rules, omega (arith, e.1, e.2), splits _ _ _ _ _ (copies _))
