use Rattle.std.proofs.Common.{◌≡◌, ◌+◌, ◌<◌, ◌≤◌, length}
use Rattle.std.specs.Prelude.{Contains, slice_index}
use Rattle.graph_terms.specs.Edges.{edges}
use Rattle.line_marks.specs.Marking.{unmarked}
use Rattle.explanations.specs.Search.{near_end, far_end, way_edges, AreOrigins}
use Rattle.explanations.proofs.Levels.{IsSearch}
use Rattle.explanations.proofs.search.search_from.Given as goal

abbrev pub invariant-levels : goal.invariant-levels
invariant-levels l = record {
  size : length l.search.marks.by_line.items ≡ length l.graph.lines;
  some : 0 < l.count;
  search : IsSearch (way_edges l.way l.ends (edges l.graph)) (near_end l.way) (far_end l.way) (Contains l.starts) (slice_index l.search.marks.by_line.items) l.count l.search.marks.pending.items;
  origins : AreOrigins (way_edges l.way l.ends (edges l.graph)) (near_end l.way) (far_end l.way) l.starts l.search.marks.by_line.items l.search.origins.items;
  room : l.count + unmarked l.search.marks.by_line.items + length l.search.marks.pending.items ≤ length l.graph.lines + 1;
}

abbrev pub decreases-levels : goal.decreases-levels
decreases-levels l = unmarked l.search.marks.by_line.items + length l.search.marks.pending.items
