use Rattle.std.proofs.Common.{◌≡◌, ℕ, ◌+◌, ◌<◌, ◌≤◌, true}
use Rattle.conflict_classes.specs.Settled.{IsSettled}
use Rattle.sweep_base.specs.Noted.{is_noted}
use Rattle.race_pairs.proofs.rivals.Rivals.free_of_noted.Given as goal

abbrev pub invariant-loop-line : goal.invariant-loop-line
invariant-loop-line l = record {
  few : l.free ≤ 64;
  settled : (b r : ℕ) → b < l.free → r < l.line → is_noted l.racing r ≡ true → IsSettled l.graph (l.self.first + b) r;
}
