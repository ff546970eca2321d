use Rattle.run_state.proofs.LawFacts as laws
use Rattle.run_state.proofs.laws.put_back_leaves_end.Goals as goal

pub returns : goal.returns
returns c = laws.put_back_leaves_end
