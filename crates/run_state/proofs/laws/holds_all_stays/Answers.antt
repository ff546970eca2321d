use Rattle.run_state.proofs.LawFacts as laws
use Rattle.run_state.proofs.laws.holds_all_stays.Goals as goal

pub returns : goal.returns
returns c = laws.holds_all_stays
