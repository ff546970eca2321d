use Rattle.std.proofs.Common.{nat_le, ap}
use Rattle.std.specs.Prelude.{filter}
use Rattle.index_spaces.specs.Space.{points}
use Rattle.index_spaces.specs.Column.{cell_of}
use Rattle.graph_terms.specs.Graph.{space_at}
use Rattle.graph_meaning.specs.Effect.{wrapped}
use Rattle.kernel_table.proofs.Runs.{written_as}
use Rattle.kernel_table.proofs.Sums.{sum_agree, filtered_from}
use Rattle.kernel_table.specs.Kernels.{Makes}
use Rattle.kernel_table.proofs.scan.scan_column.Goals as goal

pub returns : goal.returns
unfolding Makes
returns c = λ y.
    let from = c.source-from.result in
    let space = space_at c.args.graph.now c.args.s in
    record {
      is_space = rw c.space.ensures at c.write_runs.ensures.is_space;
      written = λ cells sees. written_as _ _ _ _ _ (rw c.space.ensures at c.write_runs.ensures.written) (λ p h.
          ap wrapped (sum_agree (cell_of from) (cells c.args.x) (filter (λ q. nat_le q p) (points space)) (λ q m.
          sees.0 from c.source-from.ensures.column c.source-from.ensures.is_space q ((c.points_are_listed.ensures space q).0 (filtered_from (λ q. nat_le q p) (points space) q m)))));
    }
