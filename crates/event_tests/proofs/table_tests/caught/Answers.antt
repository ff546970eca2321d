use Rattle.std.proofs.Common.{arith}
use Rattle.event_tests.proofs.table_tests.caught.Goals as goal

pub watch-requires-clause-waiter : goal.watch-requires-clause-waiter
watch-requires-clause-waiter c = c.create.ensures.free 2 c.requires.2

pub watch-requires-2-clause-waiter : goal.watch-requires-2-clause-waiter
watch-requires-2-clause-waiter c = c.watch.ensures.free 0 (λ e. omega arith) (c.create.ensures.free 0 c.requires.0)

pub watch-requires-3-clause-waiter : goal.watch-requires-3-clause-waiter
watch-requires-3-clause-waiter c = c.watch-2.ensures.free 1 (λ e. omega arith) (c.watch.ensures.free 1 (λ e. omega arith) (c.create.ensures.free 1 c.requires.1))
