use Rattle.run_state.proofs.LawFacts as laws
use Rattle.run_state.proofs.laws.let_go_keeps_sound.Goals as goal

pub returns : goal.returns
returns c = laws.let_go_keeps_sound
