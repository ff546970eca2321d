use Rattle.index_spaces.proofs.RunFacts as laws
use Rattle.index_spaces.proofs.laws.earlier_points.Goals as goal

pub returns : goal.returns
returns c = laws.earlier_points
