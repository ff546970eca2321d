use Rattle.run_state.proofs.LawFacts as laws
use Rattle.run_state.proofs.laws.unordered_conflict_only_exempt.Goals as goal

pub returns : goal.returns
returns c = laws.unordered_conflict_only_exempt
