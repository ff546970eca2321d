use Rattle.home_queues.proofs.Steps.{merges}
use Rattle.home_queues.proofs.deque.give_back.Goals as goal

pub absorb-requires-clause-rule : goal.absorb-requires-clause-rule
absorb-requires-clause-rule c = merges _ _ _ _ c.requires.share
