use Rattle.index_spaces.proofs.FaultFacts as laws
use Rattle.index_spaces.proofs.laws.faultless_pairs.Goals as goal

pub returns : goal.returns
returns c = laws.faultless_pairs
