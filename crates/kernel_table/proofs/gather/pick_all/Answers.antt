use Rattle.std.proofs.Common.{◌%◌, get_or, ap, ◌∙◌}
use Rattle.index_spaces.specs.Space.{point_at, space_size, IsSpace}
use Rattle.index_spaces.specs.Column.{cell_of}
use Rattle.kernel_table.proofs.Picks.{picked}
use Rattle.kernel_table.proofs.gather.pick_all.Goals as goal

pub returns-in-len1 : goal.returns-in-len1
returns-in-len1 c k h =
    let s = c.intervals.result.now in
    let space : IsSpace s = rw c.intervals.ensures.intervals c.intervals.ensures.is_space in
    let n = get_or c.args.numbers.now k 0 in
    c.pick_from.ensures k h
    ∙ picked c.args.y.now s c.run.result.now n c.in-len1.len_at_least c.in-len1.len_below space c.run.ensures
    ∙ ap (λ t. cell_of c.args.y.now (point_at t (n % space_size t))) c.intervals.ensures.intervals
