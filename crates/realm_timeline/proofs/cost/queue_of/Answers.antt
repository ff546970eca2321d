use Rattle.std.proofs.Common.{arith}
use Rattle.graph_terms.proofs.Public.{lock_known}
use Rattle.realm_timeline.proofs.cost.queue_of.Goals as goal

pub shared_queue-requires : goal.shared_queue-requires
shared_queue-requires c =
    let b = lock_known c.args.graph.now c.line.ensures.is_graph c.args.line c.in-Acquire.lock c.line.result.now c.line.ensures.line c.in-Acquire.shared c.in-Acquire.is in
    omega (arith, b, c.locks.ensures.number, c.locks.ensures.few)

pub exclusive_queue-requires : goal.exclusive_queue-requires
exclusive_queue-requires c =
    let b = lock_known c.args.graph.now c.line.ensures.is_graph c.args.line c.in-Acquire.lock c.line.result.now c.line.ensures.line c.in-Acquire.shared c.in-Acquire.is in
    omega (arith, b, c.locks.ensures.number, c.locks.ensures.few)

pub returns-then-shared-clause-known : goal.returns-then-shared-clause-known
returns-then-shared-clause-known c =
    let b = lock_known c.args.graph.now c.line.ensures.is_graph c.args.line c.in-Acquire.lock c.line.result.now c.line.ensures.line c.in-Acquire.shared c.in-Acquire.is in
    omega (arith, b, c.shared_queue.ensures)

pub returns-else-shared-clause-known : goal.returns-else-shared-clause-known
returns-else-shared-clause-known c =
    let b = lock_known c.args.graph.now c.line.ensures.is_graph c.args.line c.in-Acquire.lock c.line.result.now c.line.ensures.line c.in-Acquire.shared c.in-Acquire.is in
    omega (arith, b, c.exclusive_queue.ensures)
