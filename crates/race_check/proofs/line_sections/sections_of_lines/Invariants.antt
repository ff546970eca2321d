use Rattle.std.proofs.Common.{◌-◌, ◌<◌, ℕ, length}
use Rattle.graph_meaning.specs.Rules.{Section}
use Rattle.section_sweeps.specs.Sections.{AreHeldSoFar, IsKept}
use Rattle.race_check.proofs.line_sections.sections_of_lines.Given as goal

abbrev pub invariant-loop-first : goal.invariant-loop-first
invariant-loop-first l = record {
  held : AreHeldSoFar l.graph l.held;
  kept : (q k i : ℕ) → q < l.first → Section l.graph k q i → IsKept l.held k i;
}

abbrev pub decreases-loop-first : goal.decreases-loop-first
decreases-loop-first l = length l.graph.lines - l.first
