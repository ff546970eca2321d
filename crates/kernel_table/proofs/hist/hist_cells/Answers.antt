use Rattle.std.proofs.Common.{◌+◌, ◌%◌, ◌==◌, ◌<◌, length, take, arith}
use Rattle.std.specs.Prelude.{count_by}
use Rattle.index_spaces.specs.Space.{rank, space_size, points}
use Rattle.index_spaces.specs.Column.{cell_of}
use Rattle.kernel_table.specs.Kernels.{column_over}
use Rattle.kernel_table.proofs.Counts.{none_counted, counted_again}
use Rattle.kernel_table.proofs.Sums.{count_more}
use Rattle.kernel_table.proofs.hist.hist_cells.Goals as goal

pub loop-interval-init : goal.loop-interval-init
loop-interval-init c = none_counted c.args.over.now c.args.bins.now c.args.cells.now (λ i. (c.type_inv.cells i).fits)

pub loop-interval-preserved : goal.loop-interval-preserved
loop-interval-preserved c =
    let over = c.args.over.now in
    let bins = c.args.bins.now in
    let s = c.intervals-interval-items.result.now in
    let f = cell_of c.args.x.now in
    let k = c.loop-interval.interval-index in
    let h : k < length s = omega arith in
    counted_again (column_over over c.args.cells.now) (column_over over c.loop-interval.cells) (column_over over c.count_all.new.cells) bins
    (λ q. count_by (λ p. f p % space_size bins == rank bins q) (points (take k s))) (λ q. count_by (λ n. n % space_size bins == rank bins q) c.run.result.now) (λ q. count_by (λ p. f p % space_size bins == rank bins q) (points (take (k + 1) s)))
    c.loop-interval.invariant c.count_all.ensures (λ q. count_more (λ n. n % space_size bins == rank bins q) f s k c.run.result.now h c.run.ensures)
