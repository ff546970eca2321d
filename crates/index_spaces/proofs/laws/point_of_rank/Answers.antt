use Rattle.index_spaces.proofs.LawFacts as laws
use Rattle.index_spaces.proofs.laws.point_of_rank.Goals as goal

pub returns : goal.returns
returns c = laws.point_of_rank
