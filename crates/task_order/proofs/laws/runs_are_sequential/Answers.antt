use Rattle.task_order.proofs.Agreement as laws
use Rattle.task_order.proofs.laws.runs_are_sequential.Goals as goal

pub returns : goal.returns
returns g c = laws.runs_are_sequential _
