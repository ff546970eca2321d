use Rattle.std.proofs.Common.{◌≡◌, ◌+◌, ◌<◌, min, length, refl, sym, ◌∙◌, arith, subst}
use Rattle.std.specs.Prelude.{None, Some, slice_index, slice_set}
use Rattle.std.proofs.lemmas.List.{get_or_read}
use Rattle.std.proofs.lemmas.Option.{slice_get_read}
use Rattle.conflict_classes.specs.Classes.{place_at}
use Rattle.conflict_classes.specs.Guards.{AreOpened}
use Rattle.sweep_base.specs.Held.{acquire_in}
use Rattle.conflict_classes.proofs.Guarding.{opened_more}
use Rattle.sweep_base.proofs.Public.{section_kept}
use Rattle.conflict_classes.proofs.guards.Guarding.open.Goals as goal

pub index-requires : goal.index-requires
index-requires c = let low = c.requires.classes.known c.args.number c.index-class.result.now (slice_get_read c.args.classes.now.of.items (length c.args.classes.now.of.items) c.args.number c.index-class.result.now refl c.requires.number c.index-class.ensures) in omega (arith, low, c.requires.locks)

pub slot_of-slot-requires : goal.slot_of-slot-requires
slot_of-slot-requires c = record { acquires = (section_kept c.args.graph.now c.args.held.now c.requires.held c.in-Some.lock _ c.in-Some-acquire.acquire (sym c.acquire.ensures ∙ c.in-Some-acquire.is)).acquires }

pub returns-in-Some-acquire-clause-opened : goal.returns-in-Some-acquire-clause-opened
returns-in-Some-acquire-clause-opened c =
    let own = slice_get_read c.args.classes.now.of.items (length c.args.classes.now.of.items) c.args.number c.index-class.result.now refl c.requires.number c.index-class.ensures in
    let g = c.args.graph.now in
    let h = c.args.held.now in
    let lines = c.args.order.now in
    let classes = c.args.classes.now.of.items in
    let sites = c.args.classes.now.sites.items in
    let locks = c.args.self.now.locks.items in
    let openings = c.args.self.now.openings.items in
    let p = c.slot_of-slot.result in
    let opening = c.index-opening.result.now in
    let low = c.requires.classes.known c.args.number c.index-class.result.now own in
    let small : p < length openings = omega (arith, c.slot_of-slot.ensures.within, c.requires.openings) in
    let at : c.index-place.result.now ≡ place_at sites c.args.number = get_or_read c.args.classes.now.sites.items c.args.number c.index-place.result.now (omega (arith, c.requires.number, c.requires.classes.numbered.size)) c.index-place.ensures 0 in
    subst (λ z. AreOpened g h lines classes sites locks (slice_set openings p z) (c.args.number + 1)) (sym c.min.ensures)
    (subst (λ z. AreOpened g h lines classes sites locks (slice_set openings p (min opening z)) (c.args.number + 1)) (sym at)
    (opened_more g h lines classes sites locks openings c.args.number c.requires.opened c.index-class.result.now own c.in-Some.lock c.in-Some-acquire.acquire p opening
    (sym (get_or_read locks c.index-class.result.now c.index.result.now (omega (arith, low, c.requires.locks)) c.index.ensures None) ∙ c.in-Some.is)
    (subst (λ z. acquire_in h c.in-Some.lock (slice_index lines z) ≡ Some c.in-Some-acquire.acquire) at (sym c.acquire.ensures ∙ c.in-Some-acquire.is)) c.slot_of-slot.ensures.slot small
    (get_or_read openings p opening small c.index-opening.ensures 0)))
