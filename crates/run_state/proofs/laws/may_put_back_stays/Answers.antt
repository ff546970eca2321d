use Rattle.run_state.proofs.LawFacts as laws
use Rattle.run_state.proofs.laws.may_put_back_stays.Goals as goal

pub returns : goal.returns
returns c = laws.may_put_back_stays
