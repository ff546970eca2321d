use Rattle.std.proofs.Common.{length, refl}
use Rattle.task_flow.proofs.AddSteps.{making_done}
use Rattle.task_flow.proofs.make.with_lines.Goals as goal

pub returns-in-Ok-clause-graph : goal.returns-in-Ok-clause-graph
returns-in-Ok-clause-graph c = (making_done c.args.flow.now c.args.sections.now.commute (length c.args.flow.now.lines) c.add_lines.new.making c.in-Ok.ensures.all refl, c.lines.ensures.is_graph)
