use Rattle.std.proofs.Common.{◌≡◌, ◌+◌, ◌*◌, ap, ◌∙◌}
use Rattle.index_spaces.specs.Space.{points}
use Rattle.index_spaces.specs.Column.{cell_of}
use Rattle.graph_terms.specs.Graph.{space_at}
use Rattle.graph_meaning.specs.Effect.{wrapped, wrapped_sum}
use Rattle.kernel_table.proofs.Runs.{written_as}
use Rattle.kernel_table.proofs.Sums.{sum_agree}
use Rattle.kernel_table.specs.Kernels.{Makes}
use Rattle.kernel_table.proofs.dot.dot_column.Goals as goal

pub returns : goal.returns
unfolding Makes
returns c = λ z.
    let one = c.source-one.result in
    let other = c.source-other.result in
    let space = space_at c.args.graph.now c.args.s in
    let product : c.dot_points-value.result ≡ wrapped_sum (λ q. cell_of one q * cell_of other q) (points space) = rw c.space.ensures at c.dot_points-value.ensures in
    record {
      is_space = rw c.space-2.ensures at c.write_runs.ensures.is_space;
      written = λ cells sees. written_as _ _ _ _ _ (rw c.space-2.ensures at c.write_runs.ensures.written) (λ p h.
          ap (λ v. wrapped (cell_of c.args.before p + v))
          (product ∙ ap wrapped (sum_agree (λ q. cell_of one q * cell_of other q) (λ q. cells c.args.x q * cells c.args.y q) (points space) (λ q m.
          let inside = (c.points_are_listed.ensures space q).0 m in
          ap (λ v. v * cell_of other q) (sees.0 one c.source-one.ensures.column c.source-one.ensures.is_space q inside)
          ∙ ap (λ v. cells c.args.x q * v) (sees.1.0 other c.source-other.ensures.column c.source-other.ensures.is_space q inside)))));
    }
