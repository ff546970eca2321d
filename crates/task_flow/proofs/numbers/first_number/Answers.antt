use Rattle.std.proofs.Common.{◌≡◌, ◌<◌, ◌≤◌, ◌+◌, ◌-◌, ◌*◌, ◌^◌, suc, sym, ◌∙◌, ap, arith, rules}
use Rattle.std.proofs.Math.Nat.{pow-suc}
use Rattle.task_flow.proofs.NameScan.{first_found, first_skips, first_none, power_most}
use Rattle.task_flow.proofs.numbers.first_number.Goals as goal

pub returns-then-not-is_taken : goal.returns-then-not-is_taken
returns-then-not-is_taken c = first_found c.args.flow.now c.loop-width.width c.loop-width.first c.loop-width-test.true c.loop-width.invariant.0 c.loop-width.invariant.1 (sym c.is_taken.ensures ∙ c.if-not-is_taken.true)

pub overflow_mul-first : goal.overflow_mul-first
overflow_mul-first c =
    let b : 10 ^ (c.loop-width.width - 1) ≤ 100000000000000000 = power_most c.loop-width.width c.loop-width-test.true in
    let is : c.loop-width.first ≡ 10 ^ (c.loop-width.width - 1) = c.loop-width.invariant.0 in
    let d : c.loop-width.first * 10 < 18446744073709551616 = omega arith in
    search rules

pub loop-width-preserved : goal.loop-width-preserved
loop-width-preserved c =
    let some : 6 ≤ c.loop-width.width = c.loop-width.auto.width in
    let next : suc (c.loop-width.width - 1) ≡ (c.loop-width.width + 1) - 1 = omega arith in (
      ap (λ x. x * 10) c.loop-width.invariant.0 ∙ (sym (pow-suc 10 (c.loop-width.width - 1)) ∙ ap (λ k. 10 ^ k) next),
      first_skips c.args.flow.now c.loop-width.width c.loop-width-test.true c.loop-width.invariant.1 (sym c.is_taken.ensures ∙ c.if-not-is_taken.false),
    )

pub returns : goal.returns
returns c = first_none c.args.flow.now c.loop-width.width c.loop-width-test.false c.loop-width.invariant.1
