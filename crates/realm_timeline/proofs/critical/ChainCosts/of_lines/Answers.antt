use Rattle.std.proofs.Common.{◌*◌, ◌≤◌, refl, ap, ◌∙◌, replicate, length, arith}
use Rattle.std.specs.Prelude.{None, slice_index}
use Rattle.realm_timeline.specs.ChainCosts.{chain_cost_at}
use Rattle.realm_timeline.proofs.ChainCostFacts.{order_line, line_added, none_added}
use Rattle.realm_timeline.proofs.critical.ChainCosts.of_lines.Goals as goal

pub loop-place-init : goal.loop-place-init
loop-place-init c = none_added c.args.graph.now c.args.order.now c.in_ok-filled.field-0.items c.in_ok-filled-2.field-0.items
    (c.in_ok-filled.ensures.items ∙ ap (λ n. replicate n 0) c.lines-lines.ensures.number) (c.in_ok-filled-2.ensures.items ∙ ap (λ n. replicate n None) c.lines-lines.ensures.number)

pub add_line-requires-clause-line : goal.add_line-requires-clause-line
add_line-requires-clause-line c = order_line c.args.graph.now c.args.order.now c.requires c.loop-place.place (omega (arith, c.loop-place-test.true))

pub add_line-requires-clause-few : goal.add_line-requires-clause-few
add_line-requires-clause-few c = λ i. (
    let f : chain_cost_at c.loop-place.chain_costs.costs.items i ≤ 68719476736 * c.loop-place.place = c.loop-place.invariant.few i in
    let n : length c.args.order.now ≤ length c.args.graph.now.lines = c.requires.few in
    omega arith)

pub loop-place-preserved : goal.loop-place-preserved
loop-place-preserved c = line_added c.args.graph.now c.args.order.now c.requires c.loop-place.chain_costs.costs.items c.loop-place.chain_costs.before.items c.loop-place.place (slice_index c.args.order.now c.loop-place.place)
    c.loop-place.invariant (omega (arith, c.loop-place-test.true)) refl c.add_line.new.self.costs.items c.add_line.new.self.before.items c.add_line.ensures
