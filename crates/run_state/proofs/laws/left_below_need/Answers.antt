use Rattle.run_state.proofs.LawFacts as laws
use Rattle.run_state.proofs.laws.left_below_need.Goals as goal

pub returns : goal.returns
returns c = laws.left_below_need
