use Rattle.std.proofs.Common.{◌≡◌, ℕ, ◌&&◌, ◌+◌, ◌-◌, length}
use Rattle.index_spaces.specs.Space.{has_point}
use Rattle.index_spaces.proofs.MergeFacts.{share_from}
use Rattle.index_spaces.proofs.space.merges.meet.Given as goal

abbrev pub invariant-loop-a : goal.invariant-loop-a
invariant-loop-a l = (p : ℕ) → (has_point l.first p && has_point l.second p) ≡ share_from l.first l.second l.a l.b p

abbrev pub decreases-loop-a : goal.decreases-loop-a
decreases-loop-a l = length l.first - l.a + (length l.second - l.b)
