use Rattle.std.proofs.Common.{subst}
use Rattle.realm_timeline.specs.Queue.{queue_at, IsUnheld}
use Rattle.realm_timeline.proofs.HoldingFacts.{joined_by}
use Rattle.realm_timeline.proofs.holding.held_queue.Goals as goal

pub returns-then-by_columns : goal.returns-then-by_columns
returns-then-by_columns c = joined_by c.args.graph.now c.args.by_columns c.args.queues.now c.args.line c.held_column.result c.if-by_columns.true
    (subst (λ q. IsUnheld (queue_at c.args.queues.now q)) c.queue_of-own.ensures.queue (c.is_held_at.ensures.free c.if-is_held_at.false)) c.held_column.ensures
