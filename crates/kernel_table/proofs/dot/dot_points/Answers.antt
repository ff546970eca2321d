use Rattle.std.proofs.Common.{◌<◌, length, get_or, ◌∙◌, sym, arith}
use Rattle.index_spaces.specs.Column.{cell_of}
use Rattle.kernel_table.proofs.Runs.{run_length}
use Rattle.kernel_table.proofs.Sums.{dot_more}
use Rattle.kernel_table.proofs.dot.dot_points.Goals as goal

pub add_products-so_far-requires : goal.add_products-so_far-requires
add_products-so_far-requires c =
    let i = get_or c.intervals-interval-items.result.now c.loop-interval.interval-index (0, 0) in
    run_length c.args.x.now i c.run.result.now c.run.ensures ∙ sym (run_length c.args.y.now i c.run-in-loop-interval.result.now c.run-in-loop-interval.ensures)

pub loop-interval-preserved : goal.loop-interval-preserved
loop-interval-preserved c =
    let s = c.intervals-interval-items.result.now in
    let k = c.loop-interval.interval-index in
    let h : k < length s = omega arith in
    c.add_products-so_far.ensures ∙ dot_more (cell_of c.args.x.now) (cell_of c.args.y.now) s k c.loop-interval.so_far c.run.result.now c.run-in-loop-interval.result.now h c.loop-interval.invariant c.run.ensures c.run-in-loop-interval.ensures
