use Rattle.std.proofs.Common.{sym, ◌∙◌, subst}
use Rattle.basics.proofs.ListFacts.{got_contains}
use Rattle.graph_terms.specs.Access.{accesses}
use Rattle.realm_timeline.specs.Queue.{queue_at, IsUnheld}
use Rattle.realm_timeline.proofs.HoldingFacts.{unheld_more}
use Rattle.realm_timeline.proofs.holding.held_column.Goals as goal

pub access_queue-queue-requires : goal.access_queue-queue-requires
access_queue-queue-requires c =
    let g = c.args.graph.now in
    (c.accesses_fit.ensures g c.args.line c.in_ok-access.access c.lines.ensures.is_graph (got_contains (accesses g c.args.line) c.loop-k.k c.in_ok-access.access (sym c.access.ensures ∙ c.in_ok-access.was))).column

pub loop-k-preserved : goal.loop-k-preserved
loop-k-preserved c = unheld_more c.args.graph.now c.args.queues.now c.args.line c.loop-k.k c.in_ok-access.access (sym c.access.ensures ∙ c.in_ok-access.was) c.loop-k.invariant
    (subst (λ q. IsUnheld (queue_at c.args.queues.now q)) c.access_queue-queue.ensures.queue (c.is_held_at.ensures.free c.if-is_held_at.false))
