use Rattle.std.proofs.Common.{◌≤◌, arith, subst}
use Rattle.std.specs.Prelude.{IfSome}
use Rattle.race_sweeps.specs.Enough.{AreSettledBelow}
use Rattle.race_pairs.proofs.Freeing.{later_free}
use Rattle.race_pairs.proofs.topmost.narrowed.Goals as goal

pub returns-clause-free : goal.returns-clause-free
returns-clause-free c = later_free c.args.graph.now c.args.limit
    (subst (λ o. IfSome o (λ n. c.args.limit ≤ n → AreSettledBelow c.args.graph.now c.args.limit)) c.in-Some.is c.in_ok-later.ensures (omega (arith, c.if-later-limit.false)))
