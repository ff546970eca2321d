use Rattle.std.proofs.Common.{◌≡◌, ◌-◌, ◌≤◌, length}
use Rattle.race_pairs.specs.Last.{AreLast}
use Rattle.race_pairs.specs.Races.{column_count}
use Rattle.race_pairs.specs.Topmost.{NoneRaceBelow}
use Rattle.race_pairs.proofs.ordered.ordered_lines.Given as goal

abbrev pub invariant-loop-line : goal.invariant-loop-line
invariant-loop-line l = record {
  begins : l.first ≤ l.line;
  size : length l.last.items ≡ column_count l.graph;
  free : NoneRaceBelow l.graph l.line;
  last : AreLast l.graph l.first l.line l.last.items;
}

abbrev pub decreases-loop-line : goal.decreases-loop-line
decreases-loop-line l = length l.graph.lines - l.line
