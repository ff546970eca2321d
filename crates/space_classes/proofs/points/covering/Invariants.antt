use Rattle.std.proofs.Common.{ℕ, ◌<◌}
use Rattle.space_classes.specs.Classes.{values, CoversClass}
use Rattle.space_classes.proofs.points.covering.Given as goal

abbrev pub invariant-loop-j : goal.invariant-loop-j
invariant-loop-j l = (i : ℕ) → i < l.j → CoversClass (values l.spaces) l.labels l.k l.union i → ⊥
