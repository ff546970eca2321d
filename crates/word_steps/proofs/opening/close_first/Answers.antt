use Rattle.std.proofs.Common.{ap, subst}
use Rattle.std.specs.Slots.{slots_items}
use Rattle.atomic_table.specs.Table.{Final, Seen}
use Rattle.word_steps.specs.declared.base.Base.{Base}
use Rattle.word_steps.specs.Plays.{Sat}
use Rattle.word_steps.proofs.AtKey.{KeyShown}
use Rattle.word_steps.proofs.Abandoned.{left_alone}
use Rattle.word_steps.proofs.opening.close_first.Goals as goal

pub returns-clause-left : goal.returns-clause-left
returns-clause-left c =
    let r = c.close_with.result in
    let b = c.args.base.now in
    let v = c.args.seat.me.0 in
    left_alone b.checked.now.graph b.events c.args.seat.id v (slots_items r.words) (slots_items r.slots) (ap (λ (m : Sat). m.0) c.requires.first.knows)
    (subst (λ (b : Base). Final (Seen (KeyShown b) c.args.seat.id v) (slots_items r.words) (slots_items r.slots)) c.requires.keyed c.close_with.ensures.values.2)
