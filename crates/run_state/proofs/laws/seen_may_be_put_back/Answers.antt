use Rattle.run_state.proofs.LawFacts as laws
use Rattle.run_state.proofs.laws.seen_may_be_put_back.Goals as goal

pub returns : goal.returns
returns c = laws.seen_may_be_put_back
