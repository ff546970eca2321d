use Rattle.std.proofs.Common.{◌≡◌, ◌*◌, ◌≤◌, take}
use Rattle.std.specs.Prelude.{sum_by}
use Rattle.graph_terms.specs.Graph.{columns}
use Rattle.session_text.proofs.Cells.{column_cells}
use Rattle.session_text.proofs.so_far.cell_count.Given as goal

abbrev pub invariant-loop-c : goal.invariant-loop-c
invariant-loop-c l = record {
  sum : l.cells ≡ sum_by (column_cells l.graph) (take l.c (columns l.graph));
  few : l.cells ≤ 4294967296 * l.c;
}
