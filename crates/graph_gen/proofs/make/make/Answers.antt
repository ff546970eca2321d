use Rattle.std.proofs.Common.{◌<◌, ◌≤◌, ◌^◌, suc, rules, length, refl, ◌∙◌, ap, arith}
use Rattle.graph_gen.specs.MadeGraph.{made_of, one_more}
use Rattle.graph_gen.proofs.MakeSteps.{grows, whole}
use Rattle.graph_gen.proofs.make.make.Goals as goal

pub loop-alloc-init : goal.loop-alloc-init
loop-alloc-init c = ((c.in_ok-making.ensures.format, c.in_ok-making.ensures.decls), (0, omega arith, c.in_ok-making.ensures.made))

pub loop-alloc-smaller : goal.loop-alloc-smaller
loop-alloc-smaller c =
    let g = grows c.args.seed c.args.size (c.loop-alloc.invariant.1).0 c.lines.result (made_of c.loop-alloc.making) (made_of c.draw.new.self) (search rules) c.requires.size.1 (c.loop-alloc.invariant.1).2 c.lines.ensures.number c.loop-alloc-test.true c.in_ok-draw.ensures.made in
    let n = c.lines.ensures.number in
    let t = c.loop-alloc-test.true in
    omega (arith, n, t)

pub loop-alloc-preserved : goal.loop-alloc-preserved
loop-alloc-preserved c =
    let inv = c.loop-alloc.invariant in
    let few = (inv.1).1 in
    let g = grows c.args.seed c.args.size (c.loop-alloc.invariant.1).0 c.lines.result (made_of c.loop-alloc.making) (made_of c.draw.new.self) (search rules) c.requires.size.1 (c.loop-alloc.invariant.1).2 c.lines.ensures.number c.loop-alloc-test.true c.in_ok-draw.ensures.made in
    ((c.in_ok-draw.ensures.format, c.in_ok-draw.ensures.decls), (suc (inv.1).0, omega arith, c.in_ok-draw.ensures.made ∙ ap (one_more c.args.size) (inv.1).2))

pub returns : goal.returns
returns c =
    let inv = c.loop-alloc.invariant in
    let small : c.args.seed < 2 ^ 64 = search rules in
    let full : c.args.size ≤ length c.loop-alloc.making.graph.lines = (let n = c.lines.ensures.number in let t = c.loop-alloc-test.false in omega (arith, n, t)) in
    record { graph = whole c.args.seed c.args.size (inv.1).0 (made_of c.loop-alloc.making) c.loop-alloc.making.graph small c.requires.size.1 (inv.1).2 (inv.1).1 full (inv.0).0 (inv.0).1 refl }
