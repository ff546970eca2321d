use Rattle.std.proofs.Common.{◌≡◌, ◌≤◌, length}
use Rattle.section_sweeps.specs.Passing.{AreFromBehind, AreWithin, IsSized}
use Rattle.section_sweeps.proofs.PassingSteps.{AreDownTo}
use Rattle.section_sweeps.proofs.sweep.sweep_back.Given as goal

abbrev pub invariant-loop-place : goal.invariant-loop-place
invariant-loop-place l = record {
  own : l.before.own ≡ l.initial.before.own;
  size : IsSized (length l.graph.lines) l.before;
  is : AreFromBehind l.graph l.before.own.items l.before.passed.items;
  down : AreDownTo l.graph l.table.places.items l.before.own.items l.before.passed.items l.place;
  within : AreWithin l.table.places.items l.before.passed.items l.place l.high;
  ends : l.place ≤ l.high;
}

abbrev pub decreases-loop-place : goal.decreases-loop-place
decreases-loop-place l = l.place
