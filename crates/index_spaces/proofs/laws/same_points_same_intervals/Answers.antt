use Rattle.index_spaces.proofs.LawFacts as laws
use Rattle.index_spaces.proofs.laws.same_points_same_intervals.Goals as goal

pub returns : goal.returns
returns c = laws.same_points
