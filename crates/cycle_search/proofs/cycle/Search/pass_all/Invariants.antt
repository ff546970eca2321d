use Rattle.std.proofs.Common.{◌≡◌, ◌+◌, length, take}
use Rattle.cycle_search.specs.Search.{IsMarking, unmarked}
use Rattle.cycle_search.proofs.cycle.Search.pass_all.Given as goal

abbrev pub invariant-loop-edge : goal.invariant-loop-edge
invariant-loop-edge l = record {
  size : length l.self.marked.items ≡ length l.graph.lines;
  marking : IsMarking (take l.edge-index l.edges) l.initial.self.marked.items l.initial.self.stack.items l.self.marked.items l.self.stack.items;
  work : unmarked l.self.marked.items + length l.self.stack.items ≡ unmarked l.initial.self.marked.items + length l.initial.self.stack.items;
}
