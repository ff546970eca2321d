use Rattle.run_state.proofs.LawFacts as laws
use Rattle.run_state.proofs.laws.quiet_gives_outcome.Goals as goal

pub returns : goal.returns
returns c = laws.quiet_gives_outcome
