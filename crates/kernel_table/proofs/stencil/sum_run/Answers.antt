use Rattle.std.proofs.Common.{◌≡◌, ◌+◌, ◌-◌, length, sym, ◌∙◌, arith}
use Rattle.kernel_table.proofs.Runs.{run_length}
use Rattle.kernel_table.proofs.Windows.{run_sums}
use Rattle.kernel_table.proofs.stencil.sum_run.Goals as goal

pub sum_neighbors-requires : goal.sum_neighbors-requires
sum_neighbors-requires c =
    let n = length c.args.cells.now in
    let first = c.args.first in
    let some = c.requires.some in
    sym (run_length c.args.x.now (first, first + (n - 1)) c.run.result.now c.run.ensures ∙ (let e : first + (n - 1) + 1 - first ≡ n = omega (arith, some) in e))

pub returns : goal.returns
returns c =
    let n = length c.args.cells.now in
    let lent = c.sum_neighbors.auto.cells in
    run_sums c.args.read.now c.args.x.now c.args.first n c.run.result.now c.sum_neighbors.new.cells c.window.result c.window-2.result c.requires.some lent c.requires.run c.run.ensures
    c.sum_neighbors.ensures c.window.ensures c.window-2.ensures
