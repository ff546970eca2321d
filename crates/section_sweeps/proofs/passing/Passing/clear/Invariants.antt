use Rattle.std.proofs.Common.{length}
use Rattle.section_sweeps.specs.Passing.{AreWithin, IsSized}
use Rattle.section_sweeps.proofs.passing.Passing.clear.Given as goal

abbrev pub invariant-loop-place : goal.invariant-loop-place
invariant-loop-place l = record {
  size : IsSized (length l.graph.lines) l.self;
  own : AreWithin l.table.places.items l.self.own.items l.place l.high;
  passed : AreWithin l.table.places.items l.self.passed.items l.place l.high;
}
