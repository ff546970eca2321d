use Rattle.std.proofs.Common.{sym, ap, subst, ◌∙◌}
use Rattle.std.specs.Slots.{slots_items}
use Rattle.std.proofs.lemmas.Option.{none-some, same_Some}
use Rattle.run_core.specs.Core.{CoreValue}
use Rattle.run_core.specs.Finishing.{NothingOut}
use Rattle.lock_engine.specs.Seats.{view_of}
use Rattle.lock_engine.proofs.RuleFacts.{closes}
use Rattle.lock_engine.proofs.turn.last_core.Goals as goal

pub unreachable-requires : goal.unreachable-requires
unreachable-requires c =
    let e = closes c.args.table.shared.key c.take_seat-seat.result.id c.take_seat-seat.result.me.0 (view_of c.args.badge) (slots_items c.close_with-closed.result.words) (slots_items c.close_with-closed.result.slots) c.take.result c.take_seat-seat.ensures.view c.requires.all c.requires.idle c.requires.resting.turn c.close_with-closed.ensures.values.2 c.take.ensures.value in
    none-some e.0 (sym c.in_default.is ∙ e.3)

pub returns-clause-graph : goal.returns-clause-graph
returns-clause-graph c =
    let e = closes c.args.table.shared.key c.take_seat-seat.result.id c.take_seat-seat.result.me.0 (view_of c.args.badge) (slots_items c.close_with-closed.result.words) (slots_items c.close_with-closed.result.slots) c.take.result c.take_seat-seat.ensures.view c.requires.all c.requires.idle c.requires.resting.turn c.close_with-closed.ensures.values.2 c.take.ensures.value in
    ap (λ (x : CoreValue). x.graph) (c.into_core.ensures ∙ same_Some c.in-Some.core e.0 (sym c.in-Some.is ∙ e.3)) ∙ e.1

pub returns-clause-unhosted : goal.returns-clause-unhosted
returns-clause-unhosted c =
    let e = closes c.args.table.shared.key c.take_seat-seat.result.id c.take_seat-seat.result.me.0 (view_of c.args.badge) (slots_items c.close_with-closed.result.words) (slots_items c.close_with-closed.result.slots) c.take.result c.take_seat-seat.ensures.view c.requires.all c.requires.idle c.requires.resting.turn c.close_with-closed.ensures.values.2 c.take.ensures.value in
    ap (λ (x : CoreValue). x.hosted) (c.into_core.ensures ∙ same_Some c.in-Some.core e.0 (sym c.in-Some.is ∙ e.3)) ∙ e.4

pub returns-clause-nothing_out : goal.returns-clause-nothing_out
returns-clause-nothing_out c =
    let e = closes c.args.table.shared.key c.take_seat-seat.result.id c.take_seat-seat.result.me.0 (view_of c.args.badge) (slots_items c.close_with-closed.result.words) (slots_items c.close_with-closed.result.slots) c.take.result c.take_seat-seat.ensures.view c.requires.all c.requires.idle c.requires.resting.turn c.close_with-closed.ensures.values.2 c.take.ensures.value in
    subst NothingOut (sym (c.into_core.ensures ∙ same_Some c.in-Some.core e.0 (sym c.in-Some.is ∙ e.3))) e.2
