use Rattle.std.proofs.Common.{◌≡◌, ℕ, All, length}
use Rattle.basics.specs.Sums.{total}
use Rattle.home_queues.specs.Parts.{deques_of, IsStealRight, stolen}
use Rattle.home_queues.proofs.home_hints.steal_any.Given as goal

abbrev pub invariant-loop-k : goal.invariant-loop-k
invariant-loop-k l =
    (length l.rights.items ≡ l.k-end) × (deques_of l.rights.items ≡ deques_of l.initial.rights.items) × All (IsStealRight l.lines) l.rights.items
    × ((h : ℕ → ℕ) → total (stolen h) l.rights.items ≡ total (stolen h) l.initial.rights.items)
