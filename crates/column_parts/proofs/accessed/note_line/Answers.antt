use Rattle.std.proofs.Common.{arith}
use Rattle.column_parts.proofs.Noting.{one_place, all_places}
use Rattle.column_parts.proofs.accessed.note_line.Goals as goal

pub loop-k-preserved : goal.loop-k-preserved
loop-k-preserved c = one_place c.args.graph.now c.args.lists.now.items c.loop-k.lists.items c.note_place.new.lists.items c.args.i c.loop-k.k c.loop-k.invariant c.in_ok-note_place.ensures

pub returns : goal.returns
returns c = all_places c.args.graph.now c.args.lists.now.items c.loop-k.lists.items c.args.i c.loop-k.k (c.accesses_are_few.ensures c.args.graph.now c.args.i) (omega (arith, c.loop-k-test.false)) c.loop-k.invariant
