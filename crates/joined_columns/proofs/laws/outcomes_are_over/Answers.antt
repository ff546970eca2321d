use Rattle.joined_columns.proofs.Over as over
use Rattle.joined_columns.proofs.laws.outcomes_are_over.Goals as goal

pub returns : goal.returns
returns c = over.outcomes_are_over
