use Rattle.std.proofs.Common.{◌≡◌, ℕ, ◌<◌, length}
use Rattle.std.specs.Prelude.{slice_index}
use Rattle.explanations.specs.Reaches.{reach_at}
use Rattle.explanations.specs.Search.{origin_at, reach_of}
use Rattle.explanations.proofs.reaches.reach_all.Given as goal

abbrev pub invariant-loop-i : goal.invariant-loop-i
invariant-loop-i l = record {
  size : length l.reaches.items ≡ l.i;
  each : (k : ℕ) → k < l.i → reach_at l.reaches.items k ≡ reach_of (slice_index l.tree.counts.items k) (origin_at l.tree.origins.items k);
}
