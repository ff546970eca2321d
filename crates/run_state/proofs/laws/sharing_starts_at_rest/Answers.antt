use Rattle.run_state.proofs.LawFacts as laws
use Rattle.run_state.proofs.laws.sharing_starts_at_rest.Goals as goal

pub returns : goal.returns
returns c = laws.sharing_starts_at_rest
