use Rattle.std.proofs.Common.{sym}
use Rattle.index_spaces.specs.Laws.{pair_at}
use Rattle.kernel_table.proofs.Runs.{run_length, run_cell}
use Rattle.kernel_table.proofs.walk.run_of.Goals as goal

pub returns-clause-size : goal.returns-clause-size
returns-clause-size c =
    let i = pair_at c.intervals.result.now c.args.k in
    rw (sym c.intervals.ensures.intervals) (run_length c.args.column.now i c.run.result.now c.run.ensures)

pub returns-clause-cells : goal.returns-clause-cells
returns-clause-cells c =
    let i = pair_at c.intervals.result.now c.args.k in
    rw (sym c.intervals.ensures.intervals) (λ j h. run_cell c.args.column.now i c.run.result.now j c.run.ensures h)
