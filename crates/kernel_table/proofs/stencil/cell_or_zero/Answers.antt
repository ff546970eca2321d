use Rattle.std.proofs.Common.{◌^◌, inl, inr}
use Rattle.std.proofs.lemmas.Bool.{cases_lt}
use Rattle.index_spaces.specs.Column.{cell_of}
use Rattle.kernel_table.proofs.Windows.{no_point_above}
use Rattle.kernel_table.proofs.stencil.cell_or_zero.Goals as goal

pub returns-in-Err : goal.returns-in-Err
returns-in-Err c = no_point_above c.args.read.now (cell_of c.args.x.now) c.args.q c.intervals.ensures.is_space (elim (cases_lt c.args.q (2 ^ 32)) [ inl l ↦ absurd (c.in-Err.ensures l) | inr m ↦ m ])
