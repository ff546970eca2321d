use Rattle.kernel_table.specs.Kernels.{Makes}
use Rattle.kernel_table.proofs.iota.iota_column.Goals as goal

pub returns : goal.returns
unfolding Makes
returns c = λ held x. record {
  is_space = rw c.space.ensures at c.write_runs.ensures.is_space;
  written = λ cells sees. rw c.space.ensures at c.write_runs.ensures.written;
}
