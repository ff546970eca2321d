use Rattle.index_spaces.proofs.LawFacts as laws
use Rattle.index_spaces.proofs.laws.rank_of_point.Goals as goal

pub returns : goal.returns
returns c = laws.rank_of_point
