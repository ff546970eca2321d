use Rattle.std.proofs.Common.{◌≡◌, length, subst, arith}
use Rattle.cycle_search.proofs.Numbering.{AreNumbers, numbers_ordered}
use Rattle.cycle_search.proofs.order.Order.as_numbered.Goals as goal

pub returns-clause-ordered : goal.returns-clause-ordered
returns-clause-ordered c =
    let g = c.args.graph.now in
    numbers_ordered g (λ e k. c.edges_between_lines.ensures g e c.lines-count.ensures.is_graph k) c.requires c.loop-line.lines.items c.in_ok-left.left.items
    (subst (λ n. AreNumbers c.loop-line.lines.items n) (let e : c.loop-line.line ≡ length g.lines = omega (arith, c.loop-line-test.false, c.lines-count.ensures.number) in e) c.loop-line.invariant)
    (omega (arith, c.in_ok-left.ensures.size, c.lines-count.ensures.number)) c.in_ok-left.ensures.each

pub returns-clause-few : goal.returns-clause-few
returns-clause-few c = omega (arith, c.loop-line.invariant.size, c.lines-count.ensures.number, c.loop-line.auto.line-end)
