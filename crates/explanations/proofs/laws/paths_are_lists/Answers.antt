use Rattle.explanations.proofs.PathFacts.{paths_listed}
use Rattle.explanations.proofs.laws.paths_are_lists.Goals as goal

pub returns : goal.returns
returns c = paths_listed
