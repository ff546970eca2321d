use Rattle.std.proofs.Common.{◌≡◌, ℕ, List, length, take}
use Rattle.graph_terms.specs.Edges.{edges}
use Rattle.line_marks.specs.Marking.{IsMarking}
use Rattle.explanations.specs.Search.{near_end, far_end, way_edges, AreOrigins, IsFarEndOfSome}
use Rattle.explanations.proofs.search.Search.follow_all.Given as goal

abbrev pub invariant-loop-line : goal.invariant-loop-line
invariant-loop-line l = record {
  marking : IsMarking (IsFarEndOfSome (way_edges l.way l.ends (edges l.graph)) (near_end l.way) (far_end l.way) (take l.line-index l.level)) l.count l.initial.self.marks.by_line.items l.initial.self.marks.pending.items l.self.marks.by_line.items l.self.marks.pending.items;
  origins_size : length l.self.origins.items ≡ length l.graph.lines;
  origins : (starts : List ℕ) → AreOrigins (way_edges l.way l.ends (edges l.graph)) (near_end l.way) (far_end l.way) starts l.initial.self.marks.by_line.items l.initial.self.origins.items →
      AreOrigins (way_edges l.way l.ends (edges l.graph)) (near_end l.way) (far_end l.way) starts l.self.marks.by_line.items l.self.origins.items;
}
