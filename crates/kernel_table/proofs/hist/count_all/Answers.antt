use Rattle.std.proofs.Common.{◌+◌, ◌%◌, ◌==◌, ◌<◌, cond, length, get_or, sym, take, arith}
use Rattle.std.specs.Prelude.{count_by}
use Rattle.std.proofs.lemmas.List.Sums.{sum_by_more}
use Rattle.index_spaces.specs.Space.{rank, space_size}
use Rattle.kernel_table.specs.Kernels.{column_over}
use Rattle.kernel_table.proofs.Counts.{none_counted, counted_once}
use Rattle.kernel_table.proofs.hist.count_all.Goals as goal

pub loop-number-init : goal.loop-number-init
loop-number-init c = none_counted c.args.over.now c.args.bins.now c.args.cells.now (λ i. (c.type_inv.cells i).fits)

pub loop-number-preserved : goal.loop-number-preserved
loop-number-preserved c =
    let over = c.args.over.now in
    let bins = c.args.bins.now in
    let numbers = c.args.numbers.now in
    let k = c.loop-number.number-index in
    let h : k < length numbers = omega arith in
    counted_once (column_over over c.args.cells.now) (column_over over c.loop-number.cells) (column_over over c.count_one.new.cells) bins
    (λ q. count_by (λ n. n % space_size bins == rank bins q) (take k numbers)) (λ q. count_by (λ n. n % space_size bins == rank bins q) (take (k + 1) numbers))
    (λ q. get_or numbers k 0 % space_size bins == rank bins q)
    c.loop-number.invariant c.count_one.ensures (λ q. sym (sum_by_more (λ n. cond (n % space_size bins == rank bins q) 1 0) numbers k 0 h))
