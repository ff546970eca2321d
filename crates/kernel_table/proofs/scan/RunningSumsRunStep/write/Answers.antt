use Rattle.std.proofs.Common.{◌≡◌, ◌+◌, ◌-◌, take, ap, ◌∙◌, arith}
use Rattle.std.specs.Prelude.{sum}
use Rattle.index_spaces.specs.Column.{cell_of}
use Rattle.index_spaces.specs.Laws.{pair_at}
use Rattle.graph_meaning.specs.Effect.{wrapped}
use Rattle.kernel_table.proofs.Runs.{has_place}
use Rattle.kernel_table.proofs.Sums.{scan_at}
use Rattle.kernel_table.proofs.scan.RunningSumsRunStep.write.Goals as goal

pub returns-clause-cells : goal.returns-clause-cells
returns-clause-cells c = λ j h.
    let s = c.args.space.now in
    let i = pair_at s c.args.k in
    let run = c.run_of.result.now in
    let place : j + 1 ≡ i.0 + j - i.0 + 1 = omega arith in
    c.sum_along-last.ensures.cells j h
    ∙ ap (λ n. wrapped (c.args.self.now.so_far + sum (take n run))) place
    ∙ scan_at (cell_of c.args.self.now.from) s c.args.k (i.0 + j) c.args.self.now.so_far run c.intervals.ensures.is_space c.requires.place
    (has_place i j (omega (arith, h, c.requires.size))) c.requires.ready.1 c.run_of.ensures.run
