use Rattle.std.proofs.Common.{◌≤◌, arith}
use Rattle.std.proofs.lemmas.Grind.{common_steps}
use Rattle.slot_need.proofs.NeedSteps.{closes, open_at_most_of, swept_at_most}
use Rattle.slot_need.proofs.need.most_open.Goals as goal

pub overflow_add-count : goal.overflow_add-count
overflow_add-count c =
    let few : c.loop-line.count ≤ c.loop-line.line = open_at_most_of c.args.tally.now c.loop-line.count c.loop-line.line c.loop-line.invariant.count_is in
    grind (arith, common_steps, few)

pub overflow_sub-count : goal.overflow_sub-count
overflow_sub-count c = closes c.args.tally.now c.args.lines c.loop-line.count c.loop-line.line c.requires.tallied c.loop-line.invariant.count_is (omega arith)

pub returns-clause-few : goal.returns-clause-few
returns-clause-few c =
    let few : c.loop-line.most ≤ c.loop-line.line = swept_at_most c.args.tally.now c.loop-line.count c.loop-line.most c.loop-line.line c.loop-line.invariant in omega arith
