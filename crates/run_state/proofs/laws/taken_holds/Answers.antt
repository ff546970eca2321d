use Rattle.run_state.proofs.LawFacts as laws
use Rattle.run_state.proofs.laws.taken_holds.Goals as goal

pub returns : goal.returns
returns c = laws.taken_holds
