use Rattle.std.proofs.Common.{◌≡◌, ℕ, ◌+◌, ◌<◌, true}
use Rattle.conflict_classes.specs.Settled.{IsSettled}
use Rattle.sweep_base.specs.Noted.{is_noted}
use Rattle.race_pairs.proofs.rivals.Rivals.has_rival.Given as goal

abbrev pub invariant-loop-bit : goal.invariant-loop-bit
invariant-loop-bit l = record { settled : (b : ℕ) → b < l.bit → is_noted l.racing (l.self.first + b) ≡ true → IsSettled l.graph (l.self.first + b) l.line }
