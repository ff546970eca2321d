use Rattle.std.proofs.Common.{ℕ, ◌+◌, ◌<◌}
use Rattle.race_pairs.specs.Topmost.{races_with}
use Rattle.race_pairs.proofs.rivals.Rivals.first_behind.Given as goal

abbrev pub invariant-loop-bit : goal.invariant-loop-bit
invariant-loop-bit l = record { before : (k : ℕ) → k < l.bit → races_with l.graph (l.self.first + k) l.line }
