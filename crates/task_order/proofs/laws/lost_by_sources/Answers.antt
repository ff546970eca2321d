use Rattle.task_order.proofs.Paths as laws
use Rattle.task_order.proofs.laws.lost_by_sources.Goals as goal

pub returns : goal.returns
returns c = laws.lost_by_sources
