use Rattle.std.proofs.Common.{◌≡◌, length, drop}
use Rattle.std.specs.Prelude.{slice_index}
use Rattle.cycle_search.specs.Order.{IsTaking, HasRoom}
use Rattle.cycle_search.proofs.order.Order.take.Given as goal

abbrev pub invariant-loop-edge : goal.invariant-loop-edge
invariant-loop-edge l = record {
  size : length l.self.left.items ≡ length l.graph.lines;
  room : HasRoom l.graph l.self.lines.items;
  taking : IsTaking l.graph l.self.lines.items (slice_index l.self.left.items) l.taken (drop l.edge-index l.edges);
}
