use Rattle.run_state.proofs.LawFacts as laws
use Rattle.run_state.proofs.laws.clock_is_small.Goals as goal

pub returns : goal.returns
returns c = laws.clock_is_small
