use Rattle.std.proofs.Common.{◌<◌, length}
use Rattle.std.specs.Prelude.{slice_index}
use Rattle.graph_terms.specs.Edges.{edges}
use Rattle.explanations.specs.Search.{near_end, far_end}
use Rattle.explanations.proofs.Trails.{IsTrailing}
use Rattle.explanations.proofs.trail.trail.Given as goal

abbrev pub invariant-loop-at : goal.invariant-loop-at
invariant-loop-at l = record {
  known : l.at < length l.graph.lines;
  trailing : IsTrailing (edges l.graph) (near_end l.way) (far_end l.way) (slice_index l.counts) l.line l.at l.edges.items;
}

abbrev pub decreases-loop-at : goal.decreases-loop-at
decreases-loop-at l = slice_index l.counts l.at
