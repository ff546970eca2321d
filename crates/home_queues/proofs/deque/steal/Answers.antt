use Rattle.home_queues.proofs.Steps.{takes}
use Rattle.home_queues.proofs.deque.steal.Goals as goal

pub steal_as-requires-clause-takes : goal.steal_as-requires-clause-takes
steal_as-requires-clause-takes c = takes _ _ c.requires.share
