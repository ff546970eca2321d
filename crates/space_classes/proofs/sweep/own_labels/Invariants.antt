use Rattle.std.proofs.Common.{◌≡◌, ℕ, ◌<◌, length}
use Rattle.space_classes.specs.Classes.{label}
use Rattle.space_classes.proofs.sweep.own_labels.Given as goal

abbrev pub invariant-loop-k : goal.invariant-loop-k
invariant-loop-k l = record {
  count : length l.labels.items ≡ l.k;
  own : (j : ℕ) → j < l.k → label l.labels.items j ≡ j;
}
