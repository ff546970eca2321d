use Rattle.std.proofs.Common.{◌≡◌, length, subst, arith}
use Rattle.section_sweeps.specs.Found.{AreFound}
use Rattle.section_sweeps.proofs.found_sections.Found.pass_all.Goals as goal

pub returns : goal.returns
returns c = subst (λ z. AreFound c.args.graph.now c.args.table.now.places.items c.loop-start.self z) (let e : c.loop-start.start ≡ length c.args.graph.now.lines = omega (arith, c.loop-start-test.false, c.loop-start.invariant.within, c.lines-lines.ensures.number) in e) c.loop-start.invariant.found
