use Rattle.run_state.proofs.LawFacts as laws
use Rattle.run_state.proofs.laws.start_is_sound.Goals as goal

pub returns : goal.returns
returns c = laws.start_is_sound
