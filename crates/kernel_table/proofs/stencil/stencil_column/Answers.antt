use Rattle.std.proofs.Common.{ap}
use Rattle.index_spaces.specs.Space.{has_point}
use Rattle.index_spaces.specs.Column.{cell_of}
use Rattle.graph_terms.specs.Graph.{space_at}
use Rattle.graph_meaning.specs.Effect.{around, wrapped}
use Rattle.kernel_table.proofs.Runs.{written_as}
use Rattle.kernel_table.proofs.Sums.{filtered_agree}
use Rattle.kernel_table.specs.Kernels.{Makes}
use Rattle.kernel_table.proofs.stencil.stencil_column.Goals as goal

pub returns : goal.returns
unfolding Makes
returns c = λ y. record {
  is_space = rw c.space.ensures at c.write_runs.ensures.is_space;
  written = λ cells sees. written_as _ _ _ _ _ (rw (c.space-read.ensures, c.space.ensures) at c.write_runs.ensures.written) (λ p h.
      ap wrapped (filtered_agree (cell_of c.source-from.result) (cells c.args.x) (has_point (space_at c.args.graph.now c.args.r)) (around p)
      (sees.0 c.source-from.result c.source-from.ensures.column c.source-from.ensures.is_space)));
}
