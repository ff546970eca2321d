use Rattle.std.proofs.Common.{◌≡◌, ℕ, ◌-◌, ◌<◌, true, length}
use Rattle.conflict_classes.specs.Settled.{IsSettled}
use Rattle.sweep_base.specs.Noted.{is_noted}
use Rattle.race_pairs.proofs.races.free_by_blocks.Given as goal

abbrev pub invariant-loop-first : goal.invariant-loop-first
invariant-loop-first l = record { settled : (k r : ℕ) → k < l.first → r < length l.graph.lines → is_noted l.racing r ≡ true → IsSettled l.graph k r }

abbrev pub decreases-loop-first : goal.decreases-loop-first
decreases-loop-first l = length l.graph.lines - l.first
