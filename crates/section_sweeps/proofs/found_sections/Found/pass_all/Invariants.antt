use Rattle.std.proofs.Common.{◌-◌, ◌≤◌, length}
use Rattle.section_sweeps.specs.Found.{AreFound}
use Rattle.section_sweeps.specs.Group.{IsCleared}
use Rattle.section_sweeps.proofs.found_sections.Found.pass_all.Given as goal

abbrev pub invariant-loop-start : goal.invariant-loop-start
invariant-loop-start l = record {
  within : l.start ≤ length l.graph.lines;
  cleared : IsCleared (length l.graph.lines) l.group;
  found : AreFound l.graph l.table.places.items l.self l.start;
}

abbrev pub decreases-loop-start : goal.decreases-loop-start
decreases-loop-start l = length l.graph.lines - l.start
