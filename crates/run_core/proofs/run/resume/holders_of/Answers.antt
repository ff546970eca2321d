use Rattle.std.proofs.Common.{arith}
use Rattle.run_lists.specs.Holders.{holders_by}
use Rattle.run_core.proofs.HoldFacts.{all_found}
use Rattle.run_core.proofs.run.resume.holders_of.Goals as goal

pub returns-clause-all : goal.returns-clause-all
returns-clause-all c =
    all_found c.args.graph.now c.requires.accepted c.args.lines.now (holders_by c.args.graph.now c.loop-line.holders.holding.items) c.loop-line.line (omega (arith, c.loop-line-test.false, c.lines-line-end.ensures.number)) c.loop-line.invariant.found
