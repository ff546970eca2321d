use Rattle.std.proofs.Common.{◌≡◌, length}
use Rattle.graph_terms.specs.Access.{all_accesses}
use Rattle.race_pairs.specs.Last.{AreLast}
use Rattle.race_pairs.specs.Races.{column_count}
use Rattle.race_pairs.proofs.LastLines.{AreHere}
use Rattle.race_pairs.proofs.ordered.follows.Given as goal

abbrev pub invariant-loop-k : goal.invariant-loop-k
invariant-loop-k l = record {
  size : length l.last.items ≡ column_count l.graph;
  last : AreLast l.graph l.first l.line l.last.items;
  here : AreHere l.line l.last.items (all_accesses l.graph l.line) l.k;
}
