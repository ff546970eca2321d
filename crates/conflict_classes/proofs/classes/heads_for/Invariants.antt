use Rattle.std.proofs.Common.{◌-◌, ◌<◌}
use Rattle.conflict_classes.proofs.classes.heads_for.Given as goal

abbrev pub invariant-loop-heads : goal.invariant-loop-heads
invariant-loop-heads l = record { some : 0 < l.heads; few : l.heads < 262145 }

abbrev pub decreases-loop-heads : goal.decreases-loop-heads
decreases-loop-heads l = 262145 - l.heads
