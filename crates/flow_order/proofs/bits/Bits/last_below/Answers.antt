use Rattle.std.proofs.Common.{◌<◌, ◌≤◌, ◌-◌, inl, inr, arith}
use Rattle.std.proofs.lemmas.Bool.{cases_lt}
use Rattle.flow_order.proofs.ShownSteps.{top_shown}
use Rattle.flow_order.proofs.bits.Bits.last_below.Goals as goal

pub returns-then-word-ne0 : goal.returns-then-word-ne0
returns-then-word-ne0 c =
    let last = c.loop-left.left - 1 in
    let t = top_shown c.args.self.now c.args.hidden.now last c.shown_word-word.result c.ilog2.result c.shown_word-word.ensures c.ilog2.ensures.bound c.ilog2.ensures.power_le c.ilog2.ensures.next_power_gt in
    let some : 0 < c.loop-left.left = (let h = c.loop-left-test.true in omega (arith, h)) in
    let bound : c.loop-left.left ≤ c.args.bound = c.loop-left.invariant.within in (
      (let w = t.within in omega (arith, w, some, bound)),
      t.shown,
      λ j a b. elim (cases_lt j c.loop-left.left) [
        | inl low ↦ t.above j a (omega (arith, low))
        | inr high ↦ c.loop-left.invariant.none j high b
      ],
    )
