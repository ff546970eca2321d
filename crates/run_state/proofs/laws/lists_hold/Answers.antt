use Rattle.run_state.proofs.LawFacts as laws
use Rattle.run_state.proofs.laws.lists_hold.Goals as goal

pub returns : goal.returns
returns c = laws.lists_hold
