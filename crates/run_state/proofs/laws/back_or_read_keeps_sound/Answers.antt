use Rattle.run_state.proofs.LawFacts as laws
use Rattle.run_state.proofs.laws.back_or_read_keeps_sound.Goals as goal

pub returns : goal.returns
returns c = laws.back_or_read_keeps_sound
