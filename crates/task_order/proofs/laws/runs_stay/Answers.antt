use Rattle.task_order.proofs.Insertion as laws
use Rattle.task_order.proofs.laws.runs_stay.Goals as goal

pub returns : goal.returns
returns g c = laws.runs_stay _
