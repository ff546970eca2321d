use Rattle.std.proofs.Common.{◌+◌, ◌%◌, ◌==◌, take}
use Rattle.std.specs.Prelude.{count_by}
use Rattle.index_spaces.specs.Space.{rank, space_size}
use Rattle.index_spaces.specs.Column.{cell_of}
use Rattle.index_spaces.specs.Run.{WritesPoints}
use Rattle.graph_meaning.specs.Effect.{wrapped}
use Rattle.kernel_table.specs.Kernels.{column_over}
use Rattle.kernel_table.proofs.hist.count_all.Given as goal

abbrev pub invariant-loop-number : goal.invariant-loop-number
invariant-loop-number l = WritesPoints (column_over l.over l.initial.cells) (column_over l.over l.cells) l.bins
    (λ q. wrapped (cell_of (column_over l.over l.initial.cells) q + count_by (λ n. n % space_size l.bins == rank l.bins q) (take l.number-index l.numbers)))
