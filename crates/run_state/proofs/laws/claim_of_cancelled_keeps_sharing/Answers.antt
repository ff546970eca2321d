use Rattle.run_state.proofs.LawFacts as laws
use Rattle.run_state.proofs.laws.claim_of_cancelled_keeps_sharing.Goals as goal

pub returns : goal.returns
returns c = laws.claim_of_cancelled_keeps_sharing
