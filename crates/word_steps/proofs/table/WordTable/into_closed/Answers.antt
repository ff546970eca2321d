use Rattle.std.proofs.Common.{subst}
use Rattle.std.specs.Slots.{slots_items}
use Rattle.atomic_table.specs.Table.{Final, Seen}
use Rattle.word_steps.specs.declared.base.Base.{Base}
use Rattle.word_steps.specs.Table.{graph_of, events_of}
use Rattle.word_steps.proofs.AtKey.{KeyShown}
use Rattle.word_steps.proofs.Closings.{closes}
use Rattle.word_steps.proofs.table.WordTable.into_closed.Goals as goal

pub returns-clause-left : goal.returns-clause-left
returns-clause-left c =
    let r = c.close_with-closed.result in
    let v = c.args.seat.me.0 in
    closes (graph_of c.args.self) (events_of c.args.self) c.args.seat.id v (slots_items r.words) (slots_items r.slots) (record { first = c.requires.first; each = c.requires.each }) c.requires.free
    (subst (λ (b : Base). Final (Seen (KeyShown b) c.args.seat.id v) (slots_items r.words) (slots_items r.slots)) c.args.self.keyed c.close_with-closed.ensures.values.2)
