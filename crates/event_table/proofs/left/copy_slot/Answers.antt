use Rattle.std.proofs.Common.{arith}
use Rattle.std.specs.Slots.{slots_items}
use Rattle.event_table.proofs.Copying.{taken_beside}
use Rattle.event_table.proofs.left.copy_slot.Goals as goal

pub returns-clause-others : goal.returns-clause-others
returns-clause-others c = λ i l n was. let o = c.copy_fates.ensures in
    taken_beside c.args.from.now c.args.shape.now (slots_items c.args.closed.now.words) c.args.to.now.items c.copy_fates.new.to.items c.args.slot 0 c.word_after.result i (omega (arith, c.requires.slot.0, c.requires.slot.1)) (record { done = λ g z. absurd (omega arith); others = o.others; low = o.low }) l n was
