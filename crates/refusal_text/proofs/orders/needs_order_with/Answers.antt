use Rattle.std.proofs.Common.{sym, ◌∙◌, arith}
use Rattle.graph_terms.specs.Access.{all_accesses}
use Rattle.refusal_text.specs.Orders.{uses_need_order}
use Rattle.refusal_text.proofs.OrderFacts.{access_read, none_by, none_left, none_more, one_does}
use Rattle.refusal_text.proofs.orders.needs_order_with.Goals as goal

pub uses_need_order-requires-clause-other : goal.uses_need_order-requires-clause-other
uses_need_order-requires-clause-other c =
    let xs = all_accesses c.args.graph.now c.args.line in
    (c.all_accesses_fit.ensures c.args.graph.now c.args.line c.in-Some.other c.lines.ensures.is_graph (access_read xs c.loop-k.k c.in-Some.other (sym c.in-Some.ensures))).space

pub returns-in_default : goal.returns-in_default
returns-in_default c =
    none_left (uses_need_order c.args.graph.now c.args.one) (all_accesses c.args.graph.now c.args.line) c.loop-k.k (sym c.any_access.ensures ∙ c.in_default.is) c.loop-k.invariant

pub returns-then-uses_need_order : goal.returns-then-uses_need_order
returns-then-uses_need_order c =
    one_does (uses_need_order c.args.graph.now c.args.one) (all_accesses c.args.graph.now c.args.line) c.loop-k.k c.in-Some.other (sym c.in-Some.ensures) (sym c.if-uses_need_order.ensures)

pub loop-k-preserved : goal.loop-k-preserved
loop-k-preserved c =
    none_more (uses_need_order c.args.graph.now c.args.one) (all_accesses c.args.graph.now c.args.line) c.loop-k.k c.in-Some.other (sym c.in-Some.ensures) (sym c.if-uses_need_order.ensures) c.loop-k.invariant

pub returns : goal.returns
returns c =
    none_by (uses_need_order c.args.graph.now c.args.one) (all_accesses c.args.graph.now c.args.line) c.loop-k.k
    (omega (arith, c.all_accesses_are_few.ensures c.args.graph.now c.args.line c.lines.ensures.is_graph, c.loop-k-test.false)) c.loop-k.invariant
