use Rattle.std.proofs.Common.{◌≡◌, ◌%◌, ◌<◌, ap, ◌∙◌, arith}
use Rattle.index_spaces.specs.Space.{IsSpace, point_at, space_size}
use Rattle.index_spaces.specs.Column.{cell_of}
use Rattle.graph_terms.specs.Graph.{space_at}
use Rattle.kernel_table.proofs.Runs.{written_as}
use Rattle.kernel_table.specs.Kernels.{Makes}
use Rattle.kernel_table.proofs.gather.gather_column.Goals as goal

pub returns : goal.returns
unfolding Makes
returns c = λ z.
    let picks = space_at c.args.graph.now c.args.t in
    let from = c.source-from.result in
    let is_space : IsSpace picks = rw c.space-picks.ensures at c.intervals.ensures.is_space in
    let size : c.size.result ≡ space_size picks = rw c.space-picks.ensures at c.size.ensures.size in
    record {
      is_space = rw c.space.ensures at c.write_runs.ensures.is_space;
      written = λ cells sees. written_as _ _ _ _ _ (rw (c.space-picks.ensures, c.space.ensures) at c.write_runs.ensures.written) (λ p h.
          let r = cells c.args.x p % space_size picks in
          let fits : r < space_size picks = omega (arith, size, c.size.ensures.at_least) in
          ap (λ v. cell_of from (point_at picks (v % space_size picks))) (sees.0 c.source-numbers.result c.source-numbers.ensures.column c.source-numbers.ensures.is_space p h)
          ∙ sees.1.0 from c.source-from.ensures.column c.source-from.ensures.is_space (point_at picks r) (c.rank_of_point.ensures picks r is_space fits).0);
    }
