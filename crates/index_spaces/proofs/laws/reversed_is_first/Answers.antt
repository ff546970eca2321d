use Rattle.index_spaces.proofs.FaultFacts as laws
use Rattle.index_spaces.proofs.laws.reversed_is_first.Goals as goal

pub returns : goal.returns
returns c = laws.reversed_is_first
