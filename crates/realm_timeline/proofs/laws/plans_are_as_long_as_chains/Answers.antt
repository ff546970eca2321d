use Rattle.realm_timeline.proofs.SlotFacts as facts
use Rattle.realm_timeline.proofs.laws.plans_are_as_long_as_chains.Goals as goal

pub returns : goal.returns
returns c = facts.plans_are_as_long_as_chains
