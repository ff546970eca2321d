use Rattle.std.proofs.Common.{◌≡◌, ◌≤◌, length, take}
use Rattle.std.specs.Prelude.{None}
use Rattle.graph_terms.specs.Graph.{is_phase_of}
use Rattle.graph_terms.specs.Edges.{last_place}
use Rattle.refused_words.proofs.operations.has_phase.Given as goal

abbrev pub invariant-loop-i : goal.invariant-loop-i
invariant-loop-i l = record {
  here : l.i ≤ length l.graph.lines;
  same : last_place (is_phase_of l.barrier) 0 l.graph.lines None ≡ last_place (is_phase_of l.barrier) 0 (take l.i l.graph.lines) None;
}

abbrev pub decreases-loop-i : goal.decreases-loop-i
decreases-loop-i l = l.i
