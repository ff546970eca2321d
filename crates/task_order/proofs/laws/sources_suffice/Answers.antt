use Rattle.task_order.proofs.Paths as laws
use Rattle.task_order.proofs.laws.sources_suffice.Goals as goal

pub returns : goal.returns
returns c = laws.sources_suffice
