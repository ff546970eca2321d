use Rattle.free_engine.proofs.HintSteps.{begins}
use Rattle.free_engine.proofs.hint_queue.HintQueue.new.Goals as goal

pub ruled-requires-clause-rule : goal.ruled-requires-clause-rule
ruled-requires-clause-rule c = begins
