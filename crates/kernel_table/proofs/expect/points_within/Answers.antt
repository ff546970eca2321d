use Rattle.std.proofs.Common.{◌<◌, ◌&&◌, nat_le, length, sym, ap, ◌∙◌, arith}
use Rattle.index_spaces.specs.Space.{points}
use Rattle.index_spaces.specs.Column.{cell_of}
use Rattle.graph_meaning.specs.Effect.{all_within}
use Rattle.kernel_table.proofs.Sums.{all_more, all_fails}
use Rattle.kernel_table.proofs.expect.points_within.Goals as goal

pub returns-then-not-run_within : goal.returns-then-not-run_within
returns-then-not-run_within c =
    let s = c.intervals-interval-items.result.now in
    let k = c.loop-interval.interval-index in
    let h : k < length s = omega arith in
    sym (all_fails (λ v. nat_le c.args.low v && nat_le v c.args.high) (cell_of c.args.x.now) s k c.run.result.now h c.run.ensures (sym c.run_within.ensures ∙ c.if-not-run_within.true))
    ∙ ap (λ t. all_within (cell_of c.args.x.now) c.args.low c.args.high (points t)) c.intervals-interval-items.ensures.intervals

pub loop-interval-preserved : goal.loop-interval-preserved
loop-interval-preserved c =
    let s = c.intervals-interval-items.result.now in
    let k = c.loop-interval.interval-index in
    let h : k < length s = omega arith in
    all_more (λ v. nat_le c.args.low v && nat_le v c.args.high) (cell_of c.args.x.now) s k c.run.result.now h c.run.ensures c.loop-interval.invariant (sym c.run_within.ensures ∙ c.if-not-run_within.false)
