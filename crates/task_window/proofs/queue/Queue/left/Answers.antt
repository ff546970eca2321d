use Rattle.std.proofs.Common.{length, not, arith}
use Rattle.basics.proofs.ListFacts.{count_below-max}
use Rattle.task_order.specs.Sequence.{is_over}
use Rattle.task_window.specs.Waits.{status_at}
use Rattle.task_window.proofs.queue.Queue.left.Goals as goal

pub overflow_cast-result : goal.overflow_cast-result
overflow_cast-result c =
    let q = c.args.self.now in
    let m = count_below-max (λ j. not (is_over (status_at q.status.items j))) (length q.status.items) in
    omega (arith, m, c.requires.sized.left, c.requires.sized.few)
