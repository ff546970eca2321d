use Rattle.run_state.proofs.LawFacts as laws
use Rattle.run_state.proofs.laws.stage_leaves.Goals as goal

pub returns : goal.returns
returns c = laws.stage_leaves
