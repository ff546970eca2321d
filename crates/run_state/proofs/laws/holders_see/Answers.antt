use Rattle.run_state.proofs.LawFacts as laws
use Rattle.run_state.proofs.laws.holders_see.Goals as goal

pub returns : goal.returns
returns c = laws.holders_see
