use Rattle.std.proofs.Common.{◌≡◌, ℕ, length}
use Rattle.conflict_classes.specs.Classes.{IsNear}
use Rattle.conflict_classes.proofs.class_conflicts.empty_lists.Given as goal

abbrev pub invariant-loop-list : goal.invariant-loop-list
invariant-loop-list l = record { size : length l.lists.items ≡ l._list; none : (c d : ℕ) → IsNear l.lists.items c d → ⊥ }
