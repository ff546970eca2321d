use Rattle.std.proofs.Common.{ℕ, ◌+◌, ◌<◌}
use Rattle.graph_meaning.specs.Rules.{RaceAt}
use Rattle.race_pairs.proofs.rivals.Rivals.first_of.Given as goal

abbrev pub invariant-loop-bit : goal.invariant-loop-bit
invariant-loop-bit l = record { before : (k : ℕ) → k < l.bit → RaceAt l.graph (l.self.first + k) l.line }
