use Rattle.home_queues.proofs.Steps.{takes, saw_empty}
use Rattle.home_queues.proofs.deque.take.Goals as goal

pub pop_as-requires-clause-fifo : goal.pop_as-requires-clause-fifo
pop_as-requires-clause-fifo c = λ _. takes _ _ c.requires.share

pub pop_as-requires-clause-empty : goal.pop_as-requires-clause-empty
pop_as-requires-clause-empty c = saw_empty _ _
