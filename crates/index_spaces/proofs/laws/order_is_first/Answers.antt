use Rattle.index_spaces.proofs.FaultFacts as laws
use Rattle.index_spaces.proofs.laws.order_is_first.Goals as goal

pub returns : goal.returns
returns c = laws.order_is_first
