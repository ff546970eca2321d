use Rattle.index_spaces.proofs.RunFacts as laws
use Rattle.index_spaces.proofs.laws.runs_are_written.Goals as goal

pub returns : goal.returns
returns c = laws.runs_are_written
