use Rattle.run_state.proofs.LawFacts as laws
use Rattle.run_state.proofs.laws.sight_is_as_evaluated.Goals as goal

pub returns : goal.returns
returns c = laws.sight_is_as_evaluated
