use Rattle.run_state.proofs.LawFacts as laws
use Rattle.run_state.proofs.laws.column_back_leaves.Goals as goal

pub returns : goal.returns
returns c = laws.column_back_leaves
