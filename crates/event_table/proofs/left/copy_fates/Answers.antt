use Rattle.std.proofs.Common.{refl, ap, arith}
use Rattle.std.specs.Slots.{slots_items, slots_counts}
use Rattle.event_table.specs.Words.{turns_of, handle_at}
use Rattle.event_table.proofs.ChainSteps.{at_default}
use Rattle.event_table.proofs.Copying.{fate_is, one_more_fate}
use Rattle.event_table.proofs.left.copy_fates.Goals as goal

pub loop-gen_-init : goal.loop-gen_-init
loop-gen_-init c = record { copied = record { done = λ g l. absurd (omega arith); others = λ h n l. refl; low = λ i l. refl }; size = omega arith; room = omega arith }

pub loop-gen_-preserved : goal.loop-gen_-preserved
loop-gen_-preserved c =
    let from = c.args.from.now in
    let old = slots_items c.args.closed.now.words in
    let l = c.loop-gen_ in
    let f = c.fate_shown-fate.result in
    let h = handle_at c.args.slot l.gen_ in
    let word = at_default old c.mark_at.result c.get-word.result.now (omega (arith, c.mark_at.ensures.within, c.requires.wide, (slots_counts c.args.closed.now.words).0)) c.get-word.ensures in
    let first = at_default old c.args.slot c.get.result.now (omega (arith, c.requires.slot.0, c.requires.wide, (slots_counts c.args.closed.now.words).0)) c.get.ensures in
    let fate = fate_is from old h f c.get-word.result.now c.mark_at.result c.place.result c.mark_at.ensures.at c.place.ensures word c.fate_shown-fate.ensures in
    record {
      copied = one_more_fate from c.args.shape.now old c.args.to.now.items l.to.items c.set_fate.new.words.items c.args.slot l.gen_ f (omega (arith, c.loop-gen_-test.true, c.requires.few, c.requires.slot.2, c.turns-turns.ensures, ap turns_of first)) l.invariant.copied c.set_fate.ensures.marked fate;
      size = omega (arith, l.invariant.size, c.set_fate.ensures.marked.size);
      room = omega (arith, l.invariant.room, c.set_fate.ensures.room);
    }
