use Rattle.std.proofs.Common.{ℕ, ◌+◌, ◌-◌, ◌<◌, ◌≤◌, length}
use Rattle.graph_meaning.specs.Path.{HasPath}
use Rattle.race_pairs.specs.Topmost.{NoneRaceBelow}
use Rattle.race_pairs.proofs.chained.chained_lines.Given as goal

abbrev pub invariant-loop-line : goal.invariant-loop-line
invariant-loop-line l = record {
  begins : l.first ≤ l.line;
  free : NoneRaceBelow l.graph l.line;
  chain : (i : ℕ) → l.first ≤ i → i + 1 < l.line → HasPath l.graph i (l.line - 1);
}

abbrev pub decreases-loop-line : goal.decreases-loop-line
decreases-loop-line l = length l.graph.lines - l.line
