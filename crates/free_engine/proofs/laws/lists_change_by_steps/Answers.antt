use Rattle.free_engine.proofs.HintSteps.{change_by_steps}
use Rattle.free_engine.proofs.laws.lists_change_by_steps.Goals as goal

pub returns : goal.returns
returns c = change_by_steps
