use Rattle.std.proofs.Common.{◌≡◌, ◌≤◌, None, length, take}
use Rattle.graph_terms.specs.Graph.{is_phase_of}
use Rattle.graph_terms.specs.Edges.{last_place}
use Rattle.graph_items.proofs.edges.last_phase.Given as goal

abbrev pub invariant-loop-place : goal.invariant-loop-place
invariant-loop-place l = record {
  below : l.place ≤ length l.lines;
  none_above : last_place (is_phase_of l.barrier) 0 l.lines None ≡ last_place (is_phase_of l.barrier) 0 (take l.place l.lines) None;
}

abbrev pub decreases-loop-place : goal.decreases-loop-place
decreases-loop-place l = l.place
