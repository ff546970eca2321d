use Rattle.std.proofs.Common.{◌≡◌, ◌+◌, length}
use Rattle.slot_need.specs.Sweep.{IsTally}
use Rattle.slot_need.proofs.need.tally.Given as goal

abbrev pub invariant-loop-high : goal.invariant-loop-high
invariant-loop-high l = record { room : length l.tally.items ≡ length l.highs + 2; tallied : IsTally l.tally.items l.highs (length l.highs + 1) l.high-index }
