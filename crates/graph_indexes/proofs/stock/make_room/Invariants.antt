use Rattle.std.proofs.Common.{take}
use Rattle.graph_indexes.specs.Rows.{KeepsEdges, HasRoom}
use Rattle.graph_indexes.proofs.stock.make_room.Given as goal

abbrev pub invariant-loop-edge : goal.invariant-loop-edge
invariant-loop-edge l = record {
  keeps : KeepsEdges l.initial.stocks l.stocks;
  room : HasRoom l.side l.stocks (take l.edge-index l.given);
}
