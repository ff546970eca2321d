use Rattle.std.proofs.Common.{◌≡◌, ◌*◌, ◌≤◌, take}
use Rattle.std.specs.Prelude.{sum_by}
use Rattle.graph_terms.specs.Graph.{columns}
use Rattle.refused_words.proofs.LimitFacts.{column_cells}
use Rattle.refused_words.proofs.declared.cell_count.Given as goal

abbrev pub invariant-loop-c : goal.invariant-loop-c
invariant-loop-c l = record {
  count : l.count ≡ sum_by (column_cells l.graph) (take l.c (columns l.graph));
  few : l.count ≤ 4294967296 * l.c;
}
