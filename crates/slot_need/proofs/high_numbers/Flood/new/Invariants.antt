use Rattle.std.proofs.Common.{◌≡◌, ℕ, false, length}
use Rattle.std.specs.List.{slice_index_or}
use Rattle.slot_need.proofs.high_numbers.Flood.new.Given as goal

abbrev pub invariant-loop-lock : goal.invariant-loop-lock
invariant-loop-lock l = record { size : length l.noted.items ≡ l._lock; none : (i : ℕ) → slice_index_or l.noted.items i false ≡ false }
