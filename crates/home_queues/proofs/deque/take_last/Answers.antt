use Rattle.std.proofs.Common.{arith}
use Rattle.home_queues.proofs.Steps.{drains, drained}
use Rattle.home_queues.proofs.deque.take_last.Goals as goal

pub pop_as-requires-clause-fifo : goal.pop_as-requires-clause-fifo
pop_as-requires-clause-fifo c = λ _. drains _ _ (omega arith)

pub pop_as-requires-clause-empty : goal.pop_as-requires-clause-empty
pop_as-requires-clause-empty c = drained _ _
