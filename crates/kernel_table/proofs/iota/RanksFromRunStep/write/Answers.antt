use Rattle.std.proofs.Common.{◌≡◌, ◌+◌, get_or, ap, sym, ◌∙◌, arith, rules}
use Rattle.index_spaces.specs.Space.{rank}
use Rattle.index_spaces.specs.Laws.{pair_at}
use Rattle.graph_meaning.specs.Effect.{wrapped}
use Rattle.kernel_table.proofs.Runs.{wrapped_twice, has_place}
use Rattle.kernel_table.proofs.iota.RanksFromRunStep.write.Goals as goal

pub returns-clause-cells : goal.returns-clause-cells
returns-clause-cells c =
    let i = pair_at c.intervals.result.now c.args.k in
    let value = c.args.self.now.value in
    let same = sym c.intervals.ensures.intervals in
    let size = rw same at c.requires.size in
    let ranks = rw same at c.start_of-start.ensures.ranks in
    rw same (λ j h.
    let rank_is = ranks (i.0 + j) (has_place i j (omega (arith, size, h))) in
    let sum : (value + c.from.result) + j ≡ value + rank c.intervals.result.now (i.0 + j) = omega (arith, rank_is, c.from.ensures) in
    let e : get_or c.set_each.new.cells j 0 ≡ wrapped (wrapped (value + c.from.result) + j) = search (rules, c.set_each.ensures j h) in
    e ∙ wrapped_twice (value + c.from.result) j ∙ ap wrapped sum)
