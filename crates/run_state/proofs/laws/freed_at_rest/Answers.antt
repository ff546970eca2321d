use Rattle.run_state.proofs.LawFacts as laws
use Rattle.run_state.proofs.laws.freed_at_rest.Goals as goal

pub returns : goal.returns
returns c = laws.freed_at_rest
