use Rattle.run_state.proofs.LawFacts as laws
use Rattle.run_state.proofs.laws.out_conflict_only_exempt.Goals as goal

pub returns : goal.returns
returns c = laws.out_conflict_only_exempt
