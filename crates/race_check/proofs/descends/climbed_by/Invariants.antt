use Rattle.std.proofs.Common.{ℕ, ◌+◌, ◌<◌}
use Rattle.graph_meaning.specs.Rules.{DescendsAt}
use Rattle.race_check.proofs.descends.climbed_by.Given as goal

abbrev pub invariant-loop-bit : goal.invariant-loop-bit
invariant-loop-bit l = record { before : (k : ℕ) → k < l.bit → DescendsAt l.graph (l.first + k) l.line }
