use Rattle.index_spaces.proofs.LawFacts as laws
use Rattle.index_spaces.proofs.laws.points_ascend.Goals as goal

pub returns : goal.returns
returns c = laws.points_ascend
