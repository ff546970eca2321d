use Rattle.run_state.proofs.LawFacts as laws
use Rattle.run_state.proofs.laws.can_take_whole.Goals as goal

pub returns : goal.returns
returns c = laws.can_take_whole
