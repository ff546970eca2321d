use Rattle.std.proofs.Common.{◌≡◌, length, subst, arith}
use Rattle.slot_need.specs.High.{AreAcquires}
use Rattle.slot_need.proofs.reservations.acquires_of_all.Goals as goal

pub returns : goal.returns
returns c =
    let g = c.args.graph.now in
    let all : c.loop-line.line ≡ length g.lines = omega (arith, c.loop-line.auto.line-end, c.loop-line-test.false, c.lines-line-end.ensures.number) in subst (λ n. AreAcquires g c.loop-line.lists.items n) all c.loop-line.invariant
