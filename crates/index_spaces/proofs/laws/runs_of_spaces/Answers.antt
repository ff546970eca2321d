use Rattle.index_spaces.proofs.RunFacts as laws
use Rattle.index_spaces.proofs.laws.runs_of_spaces.Goals as goal

pub returns : goal.returns
returns c = laws.runs_of_spaces
