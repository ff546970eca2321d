use Rattle.task_order.proofs.Insertion as laws
use Rattle.task_order.proofs.laws.histories_are_runs.Goals as goal

pub returns : goal.returns
returns g c = laws.histories_are_runs _
