use Rattle.std.proofs.Common.{arith}
use Rattle.sweep_base.proofs.Placing.{placed_all}
use Rattle.sweep_base.proofs.places.places.Goals as goal

pub returns : goal.returns
returns c = placed_all c.args.graph.now c.args.order.now c.loop-place.places.items c.loop-place.place c.requires c.loop-place.invariant.size (omega (arith, c.requires.count, c.lines-lines.ensures.number)) c.loop-place.invariant.back
