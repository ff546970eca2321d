use Rattle.task_order.proofs.GoingOn as laws
use Rattle.task_order.proofs.laws.runs_go_on.Goals as goal

pub returns : goal.returns
returns c = laws.runs_go_on
