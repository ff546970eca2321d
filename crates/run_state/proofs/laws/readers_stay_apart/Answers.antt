use Rattle.run_state.proofs.LawFacts as laws
use Rattle.run_state.proofs.laws.readers_stay_apart.Goals as goal

pub returns : goal.returns
returns c = laws.readers_stay_apart
