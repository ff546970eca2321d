use Rattle.std.proofs.Common.{arith}
use Rattle.slot_need.proofs.PlainNeed.{one_slot}
use Rattle.slot_need.proofs.need.all_wait_above.Goals as goal

pub returns : goal.returns
returns c h = one_slot c.args.graph.now c.lines.ensures.is_graph (omega (arith, c.locks.ensures.number, c.if-locks-gt0.false)) (c.all_edges_ascend.ensures c.if-not-all_edges_ascend.false) (c.all_come.ensures h)
