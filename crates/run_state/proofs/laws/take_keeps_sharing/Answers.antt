use Rattle.run_state.proofs.LawFacts as laws
use Rattle.run_state.proofs.laws.take_keeps_sharing.Goals as goal

pub returns : goal.returns
returns c = laws.take_keeps_sharing
