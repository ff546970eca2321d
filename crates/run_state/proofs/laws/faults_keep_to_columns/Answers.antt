use Rattle.run_state.proofs.LawFacts as laws
use Rattle.run_state.proofs.laws.faults_keep_to_columns.Goals as goal

pub returns : goal.returns
returns c = laws.faults_keep_to_columns
