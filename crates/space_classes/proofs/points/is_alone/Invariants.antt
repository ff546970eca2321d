use Rattle.std.proofs.Common.{◌≡◌, ℕ, ◌<◌}
use Rattle.space_classes.specs.Classes.{label}
use Rattle.space_classes.proofs.points.is_alone.Given as goal

abbrev pub invariant-loop-j : goal.invariant-loop-j
invariant-loop-j l = (i : ℕ) → i < l.j → label l.labels i ≡ label l.labels l.k → i ≡ l.k
