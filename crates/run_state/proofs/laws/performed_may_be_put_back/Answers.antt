use Rattle.run_state.proofs.LawFacts as laws
use Rattle.run_state.proofs.laws.performed_may_be_put_back.Goals as goal

pub returns : goal.returns
returns c = laws.performed_may_be_put_back
