use Rattle.std.proofs.Common.{sym, ◌∙◌, arith}
use Rattle.std.specs.List.{list_any}
use Rattle.graph_terms.specs.Access.{all_accesses}
use Rattle.refusal_text.specs.Orders.{uses_need_order}
use Rattle.refusal_text.proofs.OrderFacts.{access_read, none_by, none_left, none_more, one_does}
use Rattle.refusal_text.proofs.orders.lines_need_order.Goals as goal

pub needs_order_with-requires-clause-one : goal.needs_order_with-requires-clause-one
needs_order_with-requires-clause-one c =
    let xs = all_accesses c.args.graph.now c.args.one in
    (c.all_accesses_fit.ensures c.args.graph.now c.args.one c.in-Some.access c.lines.ensures.is_graph (access_read xs c.loop-k.k c.in-Some.access (sym c.in-Some.ensures))).space

pub returns-in_default : goal.returns-in_default
returns-in_default c =
    let g = c.args.graph.now in
    none_left (λ a. list_any (uses_need_order g a) (all_accesses g c.args.other)) (all_accesses g c.args.one) c.loop-k.k (sym c.any_access.ensures ∙ c.in_default.is) c.loop-k.invariant

pub returns-then-needs_order_with : goal.returns-then-needs_order_with
returns-then-needs_order_with c =
    let g = c.args.graph.now in
    one_does (λ a. list_any (uses_need_order g a) (all_accesses g c.args.other)) (all_accesses g c.args.one) c.loop-k.k c.in-Some.access (sym c.in-Some.ensures) (sym c.if-needs_order_with.ensures)

pub loop-k-preserved : goal.loop-k-preserved
loop-k-preserved c =
    let g = c.args.graph.now in
    none_more (λ a. list_any (uses_need_order g a) (all_accesses g c.args.other)) (all_accesses g c.args.one) c.loop-k.k c.in-Some.access (sym c.in-Some.ensures) (sym c.if-needs_order_with.ensures) c.loop-k.invariant

pub returns : goal.returns
returns c =
    let g = c.args.graph.now in
    none_by (λ a. list_any (uses_need_order g a) (all_accesses g c.args.other)) (all_accesses g c.args.one) c.loop-k.k
    (omega (arith, c.all_accesses_are_few.ensures g c.args.one c.lines.ensures.is_graph, c.loop-k-test.false)) c.loop-k.invariant
