use Rattle.task_flow.proofs.ContendSteps.{sums_skip}
use Rattle.task_flow.proofs.sums.Sums.skip.Goals as goal

pub returns : goal.returns
returns c = sums_skip c.args.flow.now c.args.line _ c.args.self.now.columns.items c.requires.sum c.requires.sums
