use Rattle.std.proofs.Common.{◌≡◌, replicate}
use Rattle.realm_timeline.specs.Queue.{no_queue}
use Rattle.realm_timeline.proofs.simulation.empty_queues.Given as goal

abbrev pub invariant-loop-queue : goal.invariant-loop-queue
invariant-loop-queue l = l.queues.items ≡ replicate l._queue no_queue
