use Rattle.home_queues.proofs.Steps.{cuts}
use Rattle.home_queues.proofs.deque.new_right.Goals as goal

pub another-pass-requires : goal.another-pass-requires
another-pass-requires c = cuts _ _ c.requires.0 c.requires.1
