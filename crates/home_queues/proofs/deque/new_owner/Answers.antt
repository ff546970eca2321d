use Rattle.home_queues.proofs.Steps.{begins}
use Rattle.home_queues.proofs.deque.new_owner.Goals as goal

pub fifo_as-requires : goal.fifo_as-requires
fifo_as-requires c = begins
