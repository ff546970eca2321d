use Rattle.run_state.proofs.LawFacts as laws
use Rattle.run_state.proofs.laws.issue_keeps_sharing.Goals as goal

pub returns : goal.returns
returns c = laws.issue_keeps_sharing
