use Rattle.free_engine.proofs.HintSteps.{takes, saw}
use Rattle.free_engine.proofs.queue_hints.QueueHintsHints.take.Goals as goal

pub pop_as-requires-clause-rule : goal.pop_as-requires-clause-rule
pop_as-requires-clause-rule g c = (takes _ _, saw _ _)
