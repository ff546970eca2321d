use Rattle.std.proofs.Common.{◌≡◌, length}
use Rattle.section_sweeps.specs.Passing.{AreFromBefore, AreWithin, IsSized}
use Rattle.section_sweeps.proofs.PassingSteps.{AreUpTo}
use Rattle.section_sweeps.proofs.sweep.sweep_up.Given as goal

abbrev pub invariant-loop-place : goal.invariant-loop-place
invariant-loop-place l = record {
  own : l.behind.own ≡ l.initial.behind.own;
  size : IsSized (length l.graph.lines) l.behind;
  is : AreFromBefore l.graph l.behind.own.items l.behind.passed.items;
  up : AreUpTo l.graph l.table.places.items l.behind.own.items l.behind.passed.items l.place;
  within : AreWithin l.table.places.items l.behind.passed.items l.low l.high;
}
