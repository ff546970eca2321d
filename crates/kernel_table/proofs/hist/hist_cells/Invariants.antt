use Rattle.std.proofs.Common.{◌+◌, ◌%◌, ◌==◌, take}
use Rattle.std.specs.Prelude.{count_by}
use Rattle.index_spaces.specs.Space.{points, rank, space_size}
use Rattle.index_spaces.specs.Column.{cell_of}
use Rattle.index_spaces.specs.Run.{WritesPoints}
use Rattle.graph_meaning.specs.Effect.{wrapped}
use Rattle.kernel_table.specs.Kernels.{column_over}
use Rattle.kernel_table.proofs.hist.hist_cells.Given as goal

abbrev pub invariant-loop-interval : goal.invariant-loop-interval
invariant-loop-interval l = WritesPoints (column_over l.over l.initial.cells) (column_over l.over l.cells) l.bins
    (λ q. wrapped (cell_of (column_over l.over l.initial.cells) q + count_by (λ p. cell_of l.x p % space_size l.bins == rank l.bins q) (points (take l.interval-index l.interval-items))))
