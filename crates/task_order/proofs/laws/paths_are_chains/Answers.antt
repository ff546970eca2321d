use Rattle.task_order.proofs.Paths as laws
use Rattle.task_order.proofs.laws.paths_are_chains.Goals as goal

pub returns : goal.returns
returns c = laws.paths_are_chains
