use Rattle.std.proofs.Common.{◌≡◌, ℕ, ◌+◌, ◌<◌, true}
use Rattle.conflict_classes.specs.Settled.{IsSettled}
use Rattle.sweep_base.specs.Noted.{is_noted}
use Rattle.race_pairs.proofs.rivals.Rivals.free_before.Given as goal

abbrev pub invariant-loop-line : goal.invariant-loop-line
invariant-loop-line l = record { settled : (k b : ℕ) → k < l.line → b < 64 → is_noted l.racing (l.self.first + b) ≡ true → IsSettled l.graph (l.self.first + b) k }
