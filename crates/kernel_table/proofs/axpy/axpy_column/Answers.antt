use Rattle.std.proofs.Common.{◌+◌, ◌*◌, ap}
use Rattle.index_spaces.specs.Column.{cell_of}
use Rattle.graph_meaning.specs.Effect.{wrapped}
use Rattle.kernel_table.proofs.Runs.{written_as}
use Rattle.kernel_table.specs.Kernels.{Makes}
use Rattle.kernel_table.proofs.axpy.axpy_column.Goals as goal

pub returns : goal.returns
unfolding Makes
returns c = λ y. record {
  is_space = rw c.space.ensures at c.write_runs.ensures.is_space;
  written = λ cells sees. written_as _ _ _ _ _ (rw c.space.ensures at c.write_runs.ensures.written) (λ p h.
      ap (λ v. wrapped (cell_of c.args.before p + wrapped (c.args.factor * v))) (sees.0 c.source-from.result c.source-from.ensures.column c.source-from.ensures.is_space p h));
}
