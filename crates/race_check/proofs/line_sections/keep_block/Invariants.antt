use Rattle.std.proofs.Common.{◌+◌, ◌<◌, ◌≤◌, ℕ}
use Rattle.graph_meaning.specs.Rules.{Section}
use Rattle.section_sweeps.specs.Sections.{AreHeldSoFar, IsGrown, IsKept}
use Rattle.race_check.proofs.line_sections.keep_block.Given as goal

abbrev pub invariant-loop-line : goal.invariant-loop-line
invariant-loop-line l = record {
  held : AreHeldSoFar l.graph l.held;
  grown : IsGrown l.initial.held l.held;
  kept : (q k i : ℕ) → l.first ≤ q → q < l.first + 64 → i < l.line → Section l.graph k q i → IsKept l.held k i;
}
