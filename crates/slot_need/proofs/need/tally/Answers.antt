use Rattle.std.proofs.Common.{◌+◌, ◌<◌, ◌≤◌, length, arith, ◌∙◌}
use Rattle.std.specs.Prelude.{slice_index}
use Rattle.std.proofs.lemmas.List.{get_or_read, length-set}
use Rattle.std.proofs.lemmas.Grind.{common_steps}
use Rattle.slot_need.proofs.NeedLaws.{tally_cell}
use Rattle.slot_need.proofs.NeedSteps.{tally_step}
use Rattle.slot_need.proofs.need.tally.Goals as goal

pub overflow_add-index_mut : goal.overflow_add-index_mut
overflow_add-index_mut c =
    let small : slice_index c.args.highs.now c.loop-high.high-index ≤ length c.args.highs.now + 1 = c.requires.small c.loop-high.high-index (omega arith) in
    let cell : slice_index c.loop-high.tally.items (slice_index c.args.highs.now c.loop-high.high-index) ≤ c.loop-high.high-index =
    tally_cell c.loop-high.tally.items c.args.highs.now (length c.args.highs.now + 1) c.loop-high.high-index c.loop-high.invariant.tallied (slice_index c.args.highs.now c.loop-high.high-index) small in
    let value = c.index_mut.ensures.value in
    grind (arith, common_steps, cell, value)

pub loop-high-preserved : goal.loop-high-preserved
loop-high-preserved c =
    let highs = c.args.highs.now in
    let tally = c.loop-high.tally.items in
    let small : slice_index highs c.loop-high.high-index ≤ length highs + 1 = c.requires.small c.loop-high.high-index (omega arith) in
    let room : slice_index highs c.loop-high.high-index < length tally = omega (arith, c.loop-high.invariant.room) in
    record {
      room = length-set tally _ _ ∙ c.loop-high.invariant.room;
      tallied = tally_step tally highs (length highs + 1) c.loop-high.high-index c.index_mut.result.now c.loop-high.invariant.tallied c.loop-high-test.true room
          (get_or_read tally (slice_index highs c.loop-high.high-index) c.index_mut.result.now room c.index_mut.ensures.value 0);
    }
