use Rattle.std.proofs.Common.{◌≡◌, ℕ, length}
use Rattle.slot_need.specs.High.{IsListed}
use Rattle.slot_need.proofs.reservations.empty_lists.Given as goal

abbrev pub invariant-loop-lock : goal.invariant-loop-lock
invariant-loop-lock l = record { count : length l.lists.items ≡ l._lock; none : (k i : ℕ) → IsListed l.lists.items k i → ⊥ }
