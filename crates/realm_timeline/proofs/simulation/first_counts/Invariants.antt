use Rattle.std.proofs.Common.{◌≡◌, ◌<◌, ◌+◌, ℕ, length}
use Rattle.std.specs.Prelude.{slice_index}
use Rattle.graph_terms.specs.Edges.{edges_into}
use Rattle.realm_timeline.proofs.simulation.first_counts.Given as goal

abbrev pub invariant-loop-line : goal.invariant-loop-line
invariant-loop-line l = record {
  count : length l.counts.items ≡ l.line;
  counts : (i : ℕ) → i < l.line → slice_index l.counts.items i ≡ length (edges_into l.graph i) + 1;
}
