use Rattle.std.proofs.Common.{◌≡◌, ℕ, ◌<◌, ◌≤◌}
use Rattle.std.specs.Prelude.{Some, slice_get}
use Rattle.conflict_classes.specs.declared.class_conflicts.Spot.{Spot}
use Rattle.conflict_classes.specs.Spots.{IsUpTo}
use Rattle.conflict_classes.proofs.class_conflicts.are_ascending.Given as goal

abbrev pub invariant-loop-place : goal.invariant-loop-place
invariant-loop-place l = (i j : ℕ) (s t : Spot) → i ≤ j → j < l.place → slice_get l.spots i ≡ Some s → slice_get l.spots j ≡ Some t → IsUpTo s t
