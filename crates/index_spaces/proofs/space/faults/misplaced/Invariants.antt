use Rattle.std.proofs.Common.{◌≡◌, ◌<◌, ◌^◌, ℕ, take, drop}
use Rattle.std.specs.List.{All}
use Rattle.index_spaces.specs.SpaceFault.{first_misplaced}
use Rattle.index_spaces.proofs.space.faults.misplaced.Given as goal

abbrev pub invariant-loop-k : goal.invariant-loop-k
invariant-loop-k l = (first_misplaced l.k l.low (drop l.k l.pairs) ≡ first_misplaced 0 0 l.pairs) × All (λ (i : ℕ × ℕ). i.1 < 2 ^ 32) (take l.k l.pairs)
