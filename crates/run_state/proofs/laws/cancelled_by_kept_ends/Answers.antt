use Rattle.run_state.proofs.LawFacts as laws
use Rattle.run_state.proofs.laws.cancelled_by_kept_ends.Goals as goal

pub returns : goal.returns
returns c = laws.cancelled_by_kept_ends
