use Rattle.run_state.proofs.LawFacts as laws
use Rattle.run_state.proofs.laws.verbs_keep_to_columns.Goals as goal

pub returns : goal.returns
returns c = laws.verbs_keep_to_columns
