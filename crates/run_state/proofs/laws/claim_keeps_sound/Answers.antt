use Rattle.run_state.proofs.LawFacts as laws
use Rattle.run_state.proofs.laws.claim_keeps_sound.Goals as goal

pub returns : goal.returns
returns c = laws.claim_keeps_sound
