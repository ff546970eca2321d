use Rattle.task_order.proofs.GoingOn as laws
use Rattle.task_order.proofs.laws.some_run_ends.Goals as goal

pub returns : goal.returns
returns g c = laws.some_run_ends _
