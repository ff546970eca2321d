use Rattle.std.proofs.Common.{subst}
use Rattle.graph_indexes.specs.Rows.{KeepsRoom}
use Rattle.graph_indexes.proofs.StockLaws.{room_more, keeps_both}
use Rattle.graph_indexes.proofs.stock.make_room.Goals as goal

pub loop-edge-preserved : goal.loop-edge-preserved
loop-edge-preserved c = record {
  keeps = keeps_both c.args.stocks.now c.loop-edge.stocks c.keep_room_at.new.stocks c.loop-edge.invariant.keeps c.keep_room_at.ensures.keeps;
  room = room_more c.args.side c.loop-edge.stocks c.keep_room_at.new.stocks c.args.given.now c.loop-edge.edge-index _ c.loop-edge-test.true c.loop-edge.invariant.room
      (subst (λ n. KeepsRoom c.loop-edge.stocks c.keep_room_at.new.stocks n) c.of.ensures c.in_ok-keep_room_at.ensures.room);
}
