use Rattle.std.proofs.Common.{take, drop}
use Rattle.graph_indexes.specs.Rows.{HasRoom, AddsEdges}
use Rattle.graph_indexes.proofs.stock.add_all.Given as goal

abbrev pub invariant-loop-edge : goal.invariant-loop-edge
invariant-loop-edge l = record {
  adds : AddsEdges l.side l.initial.stocks l.stocks (take l.edge-index l.given);
  room : HasRoom l.side l.stocks (drop l.edge-index l.given);
}
