use Rattle.run_state.proofs.LawFacts as laws
use Rattle.run_state.proofs.laws.slots_are_by_times.Goals as goal

pub returns : goal.returns
returns c = laws.slots_are_by_times
