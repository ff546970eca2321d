use Rattle.std.proofs.Common.{◌+◌, ◌%◌, ◌==◌, ap}
use Rattle.index_spaces.specs.Space.{points, rank, space_size}
use Rattle.index_spaces.specs.Column.{cell_of}
use Rattle.graph_terms.specs.Graph.{space_at}
use Rattle.graph_meaning.specs.Effect.{wrapped}
use Rattle.kernel_table.proofs.Runs.{written_as}
use Rattle.kernel_table.proofs.Sums.{count_agree}
use Rattle.kernel_table.specs.Kernels.{Makes}
use Rattle.kernel_table.proofs.hist.hist_column.Goals as goal

pub returns : goal.returns
unfolding Makes
returns c = λ y.
    let from = c.source.result in
    let space = space_at c.args.graph.now c.args.s in
    let bins = space_at c.args.graph.now c.args.t in
    record {
      is_space = rw c.space-bins.ensures at c.intervals.ensures.is_space;
      written = λ cells sees. written_as _ _ _ _ _ (rw (c.space-bins.ensures, c.space.ensures) at c.hist_points.ensures) (λ q h.
          ap (λ v. wrapped (cell_of c.args.before q + v)) (count_agree (λ n. n % space_size bins == rank bins q) (cell_of from) (cells c.args.x) (points space)
          (λ p m. sees.0 from c.source.ensures.column c.source.ensures.is_space p ((c.points_are_listed.ensures space p).0 m))));
    }
