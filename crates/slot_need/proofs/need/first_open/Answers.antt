use Rattle.std.proofs.Common.{◌≤◌, arith}
use Rattle.std.proofs.lemmas.Grind.{common_steps}
use Rattle.slot_need.proofs.NeedSteps.{closes, open_at_most_of}
use Rattle.slot_need.proofs.need.first_open.Goals as goal

pub overflow_add-count : goal.overflow_add-count
overflow_add-count c =
    let few : c.loop-line.count ≤ c.loop-line.line = open_at_most_of c.args.tally.now c.loop-line.count c.loop-line.line c.loop-line.invariant.count_is in
    grind (arith, common_steps, few)

pub overflow_add-count-in-loop-line : goal.overflow_add-count-in-loop-line
overflow_add-count-in-loop-line c =
    let few : c.loop-line.count ≤ c.loop-line.line = open_at_most_of c.args.tally.now c.loop-line.count c.loop-line.line c.loop-line.invariant.count_is in
    grind (arith, common_steps, few)

pub overflow_sub-count : goal.overflow_sub-count
overflow_sub-count c = closes c.args.tally.now c.args.lines c.loop-line.count c.loop-line.line c.requires.tallied c.loop-line.invariant.count_is (omega arith)
