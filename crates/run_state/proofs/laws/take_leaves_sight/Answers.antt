use Rattle.run_state.proofs.LawFacts as laws
use Rattle.run_state.proofs.laws.take_leaves_sight.Goals as goal

pub returns : goal.returns
returns c = laws.take_leaves_sight
