use Rattle.std.proofs.Common.{◌∙◌, ap}
use Rattle.std.specs.Prelude.{is_some}
use Rattle.task_flow.proofs.AddSteps.{first_small, first_is, making_first}
use Rattle.task_flow.proofs.making.Making.new.Goals as goal

pub invariant_of-result : goal.invariant_of-result
invariant_of-result c = record { small = rw c.unwrap_or.ensures (first_small c.args.flow.now c.first_number-numbers.result c.first_number-numbers.ensures) }

pub returns-clause-ok : goal.returns-clause-ok
returns-clause-ok c = making_first c.args.flow.now c.args.sections.now.commute _ c.in_ok-graph.ensures.ok c.new.ensures.items c.new-2.ensures.items c.new-3.ensures (c.unwrap_or.ensures ∙ first_is c.args.flow.now c.first_number-numbers.result c.first_number-numbers.ensures) (c.is_some.ensures ∙ ap is_some c.first_number-numbers.ensures)
