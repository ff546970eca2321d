use Rattle.std.proofs.Common.{◌+◌, ◌-◌, arith}
use Rattle.index_spaces.proofs.RunFacts.{run_cells}
use Rattle.index_spaces.proofs.column.ColumnView.run.Goals as goal

pub returns : goal.returns
returns c =
    let parts = c.self.inside.parts.now in
    let i = c.args.interval in
    let start = c.start_of-start.result in
    rw c.deref.ensures.value
    (rw (← c.self.view_is) (run_cells (record { space = parts.space; cells = parts.cells.items }) i start (start + (i.1 - i.0 + 1) - start) c.start_of-start.ensures c.requires.ascends c.self.invariant (omega arith)))
