use Rattle.std.proofs.Common.{◌≡◌, ◌+◌, length}
use Rattle.graph_terms.specs.Edges.{edges}
use Rattle.cycle_search.specs.Search.{IsSearching, marked_in, unmarked}
use Rattle.cycle_search.proofs.cycle.has_path_to_itself.Given as goal

abbrev pub invariant-loop-next : goal.invariant-loop-next
invariant-loop-next l = record {
  size : length l.search.marked.items ≡ length l.graph.lines;
  searching : IsSearching (edges l.graph) l.line (marked_in l.search.marked.items) l.search.stack.items;
}

abbrev pub decreases-loop-next : goal.decreases-loop-next
decreases-loop-next l = unmarked l.search.marked.items + length l.search.stack.items
