use Rattle.std.proofs.Common.{ℕ, ◌<◌, ◌≤◌, length}
use Rattle.std.specs.Prelude.{slice_index}
use Rattle.section_sweeps.specs.Group.{IsPassed}
use Rattle.section_sweeps.specs.Sections.{AreHeldSoFar, IsGrown}
use Rattle.section_sweeps.proofs.group.Group.keeps_rules.Given as goal

abbrev pub invariant-loop-place : goal.invariant-loop-place
invariant-loop-place l = record {
  held : AreHeldSoFar l.graph l.held;
  grown : IsGrown l.initial.held l.held;
  passed : (i : ℕ) → i < length l.graph.lines → l.fn.range.low ≤ slice_index l.table.places.items i → slice_index l.table.places.items i < l.place → IsPassed l.graph l.self l.held i;
}
