use Rattle.std.proofs.Common.{◌≡◌, length, subst, arith}
use Rattle.column_parts.specs.Accessed.{AreNoted}
use Rattle.column_parts.proofs.Noting.{one_line}
use Rattle.column_parts.proofs.accessed.noted_spaces.Goals as goal

pub loop-i-preserved : goal.loop-i-preserved
loop-i-preserved c = one_line c.args.graph.now c.loop-i.lists.items c.note_line.new.lists.items c.loop-i.i c.loop-i.invariant c.in_ok-note_line.ensures

pub returns : goal.returns
returns c =
    let g = c.args.graph.now in
    let all : c.loop-i.i ≡ length g.lines = omega (arith, c.loop-i.auto.i-end, c.loop-i-test.false, c.lines-i-end.ensures.number) in
    subst (AreNoted g c.loop-i.lists.items) all c.loop-i.invariant
