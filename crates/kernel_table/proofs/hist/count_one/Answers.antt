use Rattle.std.proofs.Common.{◌<◌, ◌%◌, ◌∙◌, ap, arith}
use Rattle.index_spaces.specs.Space.{rank, point_at, space_size}
use Rattle.kernel_table.proofs.Counts.{counted_one}
use Rattle.kernel_table.proofs.hist.count_one.Goals as goal

pub returns : goal.returns
returns c =
    let cells = c.args.cells.now in
    let size = c.size.ensures.size in
    let some : 0 < space_size c.args.bins.now = omega (arith, size, c.size.ensures.at_least) in
    counted_one c.cells_are_written.ensures c.point_of_rank.ensures c.rank_of_point.ensures c.args.over.now c.args.bins.now cells c.args.number c.unwrap-place.result
    c.intervals-2.ensures.is_space c.intervals.ensures.is_space c.requires.within c.requires.full some
    (rw c.unwrap-place.ensures at c.rank.ensures.rank ∙ ap (rank c.args.over.now) (c.point.ensures ∙ ap (λ n. point_at c.args.bins.now (c.args.number % n)) size))
