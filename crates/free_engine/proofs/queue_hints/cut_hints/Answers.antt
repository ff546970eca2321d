use Rattle.std.proofs.Common.{arith}
use Rattle.free_engine.proofs.HintSteps.{cuts}
use Rattle.free_engine.proofs.queue_hints.cut_hints.Goals as goal

pub another-own-requires-clause-rule : goal.another-own-requires-clause-rule
another-own-requires-clause-rule c = cuts _ _ (omega arith)
