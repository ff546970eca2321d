use Rattle.std.proofs.Common.{◌≡◌, ◌-◌, length, []}
use Rattle.std.specs.Prelude.{slice_index}
use Rattle.cycle_search.specs.Order.{IsTaking, HasRoom}
use Rattle.cycle_search.proofs.order.Order.with_others.Given as goal

abbrev pub invariant-loop-taken : goal.invariant-loop-taken
invariant-loop-taken l = record {
  size : length l.self.left.items ≡ length l.graph.lines;
  room : HasRoom l.graph l.self.lines.items;
  taking : IsTaking l.graph l.self.lines.items (slice_index l.self.left.items) l.taken [];
}

abbrev pub decreases-loop-taken : goal.decreases-loop-taken
decreases-loop-taken l = length l.graph.lines - l.taken
