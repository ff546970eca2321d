use Rattle.std.proofs.Common.{◌≡◌, ℕ, ◌<◌, length}
use Rattle.std.specs.Prelude.{slice_index}
use Rattle.sweep_base.proofs.places.places.Given as goal

abbrev pub invariant-loop-place : goal.invariant-loop-place
invariant-loop-place l = record {
  size : length l.places.items ≡ length l.order;
  back : (q : ℕ) → q < l.place → (slice_index l.places.items (slice_index l.order q) < length l.order) × (slice_index l.order (slice_index l.places.items (slice_index l.order q)) ≡ slice_index l.order q);
}
