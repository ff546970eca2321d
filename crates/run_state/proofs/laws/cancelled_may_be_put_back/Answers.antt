use Rattle.run_state.proofs.LawFacts as laws
use Rattle.run_state.proofs.laws.cancelled_may_be_put_back.Goals as goal

pub returns : goal.returns
returns c = laws.cancelled_may_be_put_back
