use Rattle.std.proofs.Common.{sym, ◌∙◌}
use Rattle.basics.proofs.ListFacts.{got_contains}
use Rattle.graph_terms.specs.Access.{accesses}
use Rattle.realm_timeline.proofs.HoldingFacts.{unused_more}
use Rattle.realm_timeline.proofs.holding.remove_uses.Goals as goal

pub remove_use-requires-clause-column : goal.remove_use-requires-clause-column
remove_use-requires-clause-column c =
    let g = c.args.graph.now in
    (c.accesses_fit.ensures g c.args.line c.in-Some.access c.lines.ensures.is_graph (got_contains (accesses g c.args.line) c.loop-k.k c.in-Some.access (sym c.access.ensures ∙ c.in-Some.is))).column

pub loop-k-preserved : goal.loop-k-preserved
loop-k-preserved c = record {
  count = c.remove_use.ensures.count ∙ c.loop-k.invariant.count;
  holder = unused_more c.args.graph.now c.args.line c.loop-k.k c.in-Some.access c.args.queues.now.items c.loop-k.queues.items c.remove_use.new.queues.items (sym c.access.ensures ∙ c.in-Some.is) c.loop-k.invariant.holder c.remove_use.ensures.holder;
}
