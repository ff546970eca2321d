use Rattle.std.proofs.Common.{rules}
use Rattle.kernel_table.proofs.dot.AddValueRunStep.write.Goals as goal

pub returns-clause-cells : goal.returns-clause-cells
returns-clause-cells c = λ j h. search (rules, c.set_each.ensures j h)
