use Rattle.std.proofs.Common.{refl, arith}
use Rattle.cycle_search.proofs.OrderLoops.{none_counted_yet, room_yet, counted_more, counted_room}
use Rattle.cycle_search.proofs.order.Order.of_free_lines.Goals as goal

pub loop-line-init : goal.loop-line-init
loop-line-init c = record {
  counted = none_counted_yet c.args.graph.now c.new.result.items c.new-2.result.items c.new.ensures.items c.new-2.ensures.items;
  room = room_yet c.args.graph.now c.new.result.items c.new.ensures.items;
}

pub loop-line-preserved : goal.loop-line-preserved
loop-line-preserved c = record {
  counted = counted_more c.args.graph.now c.loop-line.order.lines.items c.loop-line.order.left.items c.loop-line.line _ c.loop-line.invariant.counted refl c.count.new.self.lines.items c.count.new.self.left.items c.in_ok-count.ensures.left c.in_ok-count.ensures.lines;
  room = counted_room c.args.graph.now c.loop-line.order.lines.items c.loop-line.order.left.items c.loop-line.line _ c.loop-line.invariant.counted refl c.count.new.self.lines.items c.in_ok-count.ensures.lines (omega arith) c.loop-line.invariant.room;
}
