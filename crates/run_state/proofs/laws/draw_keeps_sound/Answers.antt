use Rattle.run_state.proofs.LawFacts as laws
use Rattle.run_state.proofs.laws.draw_keeps_sound.Goals as goal

pub returns : goal.returns
returns c = laws.draw_keeps_sound
