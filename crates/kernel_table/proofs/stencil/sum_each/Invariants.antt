use Rattle.std.proofs.Common.{◌≡◌, ℕ, ◌+◌, ◌<◌, get_or}
use Rattle.std.specs.Prelude.{filter}
use Rattle.index_spaces.specs.Space.{has_point}
use Rattle.index_spaces.specs.Column.{cell_of}
use Rattle.graph_meaning.specs.Effect.{around, wrapped_sum}
use Rattle.kernel_table.proofs.stencil.sum_each.Given as goal

abbrev pub invariant-loop-k : goal.invariant-loop-k
invariant-loop-k l = record {
  summed : (j : ℕ) → j < l.k → get_or l.cells j 0 ≡ wrapped_sum (cell_of l.x) (filter (has_point l.read) (around (l.first + j)));
}
