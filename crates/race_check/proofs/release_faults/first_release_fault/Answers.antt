use Rattle.std.proofs.Common.{arith}
use Rattle.graph_meaning.specs.Rules.{ReleaseFaultAt}
use Rattle.race_check.proofs.RuleSteps.{everywhere_by, below_with}
use Rattle.race_check.proofs.BeyondLines.{fault_beyond}
use Rattle.race_check.proofs.release_faults.first_release_fault.Goals as goal

pub loop-line-preserved : goal.loop-line-preserved
loop-line-preserved c = record { before = below_with (ReleaseFaultAt c.args.graph.now) c.loop-line.line c.loop-line.invariant.before (c.is_faultless.ensures.0 c.if-not-is_faultless.false) }

pub returns : goal.returns
returns c = everywhere_by (ReleaseFaultAt c.args.graph.now) c.loop-line.line (λ i h. fault_beyond c.args.graph.now i (omega arith)) c.loop-line.invariant.before
