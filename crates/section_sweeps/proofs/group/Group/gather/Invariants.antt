use Rattle.std.proofs.Common.{◌+◌, ◌-◌, ◌≤◌, length}
use Rattle.section_sweeps.specs.Group.{AreGathered, IsCleared}
use Rattle.section_sweeps.proofs.group.Group.gather.Given as goal

abbrev pub invariant-loop-place : goal.invariant-loop-place
invariant-loop-place l = record {
  begins : l.start ≤ l.place;
  within : l.place ≤ l.lines;
  count : length l.self.acquires.items + l.start ≤ l.place;
  cleared : IsCleared (length l.graph.lines) l.self;
  gathered : AreGathered l.graph l.table.places.items l.self.acquires.items l.start l.place;
}

abbrev pub decreases-loop-place : goal.decreases-loop-place
decreases-loop-place l = l.lines - l.place
