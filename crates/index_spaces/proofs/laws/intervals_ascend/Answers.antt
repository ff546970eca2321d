use Rattle.index_spaces.proofs.RunFacts as laws
use Rattle.index_spaces.proofs.laws.intervals_ascend.Goals as goal

pub returns : goal.returns
returns c = laws.intervals_ascend
