use Rattle.std.proofs.Common.{take}
use Rattle.std.specs.Prelude.{slice_index}
use Rattle.explanations.specs.Search.{near_end, IsNearest}
use Rattle.explanations.proofs.trail.nearest_edge.Given as goal

abbrev pub invariant-loop-edge : goal.invariant-loop-edge
invariant-loop-edge l = IsNearest (near_end l.way) (slice_index l.counts) (take l.edge-index l.edges) l.best
