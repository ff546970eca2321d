use Rattle.run_state.proofs.LawFacts as laws
use Rattle.run_state.proofs.laws.arrived_at_rest.Goals as goal

pub returns : goal.returns
returns c = laws.arrived_at_rest
