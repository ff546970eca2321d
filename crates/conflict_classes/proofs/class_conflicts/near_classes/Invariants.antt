use Rattle.std.proofs.Common.{◌≡◌, ℕ, ◌<◌, length}
use Rattle.conflict_classes.specs.Classes.{IsNear}
use Rattle.conflict_classes.specs.Spots.{AreLinkedTo}
use Rattle.conflict_classes.proofs.class_conflicts.near_classes.Given as goal

abbrev pub invariant-loop-place : goal.invariant-loop-place
invariant-loop-place l = record {
  size : length l.linking.near.items ≡ length l.keys;
  known : (c d : ℕ) → IsNear l.linking.near.items c d → d < length l.keys;
  linked : AreLinkedTo l.graph l.keys l.spots.items l.linking.near.items l.place;
}
