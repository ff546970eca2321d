use Rattle.std.proofs.Common.{subst, get_or}
use Rattle.graph_indexes.specs.Rows.{AddsEdge}
use Rattle.graph_indexes.proofs.StockLaws.{no_edge, adds_more, room_left}
use Rattle.graph_indexes.proofs.stock.add_all.Goals as goal

pub loop-edge-preserved : goal.loop-edge-preserved
loop-edge-preserved c =
    let added = subst (λ n. AddsEdge c.loop-edge.stocks c.push_at.new.stocks n (get_or c.args.given.now c.loop-edge.edge-index no_edge)) c.of.ensures c.push_at.ensures in
    record {
      adds = adds_more c.args.side c.args.stocks.now c.loop-edge.stocks c.push_at.new.stocks c.args.given.now c.loop-edge.edge-index no_edge c.loop-edge-test.true c.loop-edge.invariant.adds added;
      room = room_left c.args.side c.loop-edge.stocks c.push_at.new.stocks c.args.given.now c.loop-edge.edge-index no_edge c.loop-edge-test.true added c.loop-edge.invariant.room;
    }
