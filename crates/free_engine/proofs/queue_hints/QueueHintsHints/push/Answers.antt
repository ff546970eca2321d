use Rattle.std.proofs.Common.{arith}
use Rattle.free_engine.proofs.HintSteps.{puts, saw}
use Rattle.free_engine.proofs.queue_hints.QueueHintsHints.push.Goals as goal

pub push_as-requires-clause-rule : goal.push_as-requires-clause-rule
push_as-requires-clause-rule g c = (puts _ _ _ _ (omega arith), saw _ _)
