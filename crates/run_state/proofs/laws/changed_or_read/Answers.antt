use Rattle.run_state.proofs.LawFacts as laws
use Rattle.run_state.proofs.laws.changed_or_read.Goals as goal

pub returns : goal.returns
returns c = laws.changed_or_read
