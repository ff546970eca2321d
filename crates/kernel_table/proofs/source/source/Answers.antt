use Rattle.std.proofs.Common.{sym}
use Rattle.kernel_table.proofs.source.source.Goals as goal

pub returns-clause-column : goal.returns-clause-column
returns-clause-column c = sym (rw c.unwrap-column.ensures at c.view.ensures)

pub returns-clause-is_space : goal.returns-clause-is_space
returns-clause-is_space c = rw (sym c.space.ensures.space) c.intervals.ensures.is_space
