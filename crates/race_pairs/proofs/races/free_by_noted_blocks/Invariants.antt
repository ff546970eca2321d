use Rattle.std.proofs.Common.{◌≡◌, ℕ, ◌-◌, ◌<◌, ◌≤◌, true, length}
use Rattle.conflict_classes.specs.Settled.{IsSettled}
use Rattle.sweep_base.specs.Noted.{is_noted}
use Rattle.race_pairs.proofs.races.free_by_noted_blocks.Given as goal

abbrev pub invariant-loop-first : goal.invariant-loop-first
invariant-loop-first l = record {
  few : l.free ≤ l.most;
  settled : (k r : ℕ) → k < l.free → r < l.first → is_noted l.racing r ≡ true → IsSettled l.graph r k;
}

abbrev pub decreases-loop-first : goal.decreases-loop-first
decreases-loop-first l = length l.graph.lines - l.first
