use Rattle.std.proofs.Common.{ℕ, ◌+◌, ◌<◌}
use Rattle.conflict_classes.specs.Settled.{IsSettled}
use Rattle.race_pairs.proofs.rivals.Rivals.free_of.Given as goal

abbrev pub invariant-loop-bit : goal.invariant-loop-bit
invariant-loop-bit l = record { settled : (b : ℕ) → b < l.bit → IsSettled l.graph (l.self.first + b) l.line }
