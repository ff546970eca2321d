use Rattle.std.proofs.Common.{◌≡◌, ◌<◌, ℕ, length, get_or, take}
use Rattle.index_spaces.specs.Space.{space_size}
use Rattle.index_spaces.proofs.space.Space.counted.Given as goal

abbrev pub invariant-loop-interval : goal.invariant-loop-interval
invariant-loop-interval l = record {
  size : l.size ≡ space_size (take l.interval-index l.intervals);
  one_each : length l.ranks.items ≡ l.interval-index;
  below : (k : ℕ) → k < l.interval-index → get_or l.ranks.items k 0 ≡ space_size (take k l.intervals);
}
