use Rattle.std.proofs.Common.{sym, ◌∙◌}
use Rattle.basics.proofs.ListFacts.{got_contains}
use Rattle.graph_terms.specs.Access.{accesses}
use Rattle.realm_timeline.proofs.HoldingFacts.{uses_more}
use Rattle.realm_timeline.proofs.holding.add_uses.Goals as goal

pub add_use-requires-clause-column : goal.add_use-requires-clause-column
add_use-requires-clause-column c =
    let g = c.args.graph.now in
    (c.accesses_fit.ensures g c.args.line c.in-Some.access c.lines.ensures.is_graph (got_contains (accesses g c.args.line) c.loop-k.k c.in-Some.access (sym c.access.ensures ∙ c.in-Some.is))).column

pub loop-k-preserved : goal.loop-k-preserved
loop-k-preserved c = record {
  count = c.in_ok-add_use.ensures.count ∙ c.loop-k.invariant.count;
  holder = uses_more c.args.graph.now c.args.line c.loop-k.k c.in-Some.access c.args.queues.now.items c.loop-k.queues.items c.add_use.new.queues.items (sym c.access.ensures ∙ c.in-Some.is) c.loop-k.invariant.holder c.in_ok-add_use.ensures.holder;
}
