use Rattle.std.proofs.Common.{◌%◌, ap, ◌∙◌, arith}
use Rattle.index_spaces.specs.Space.{point_at, space_size}
use Rattle.index_spaces.specs.Column.{cell_of}
use Rattle.kernel_table.proofs.gather.PickedCellsRunStep.write.Goals as goal

pub returns-clause-cells : goal.returns-clause-cells
returns-clause-cells c = λ j h.
    let picks = c.args.self.now.picks.now in
    c.pick_all.ensures j h
    ∙ ap (λ v. cell_of c.args.self.now.from (point_at picks (v % space_size picks))) (c.run_of.ensures.cells j (omega (arith, h, c.run_of.ensures.size, c.requires.size)))
