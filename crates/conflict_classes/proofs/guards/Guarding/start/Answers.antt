use Rattle.std.proofs.Common.{◌≡◌, ◌<◌, length, refl, sym, ◌∙◌, arith, subst}
use Rattle.std.specs.Prelude.{None, Some, slice_index}
use Rattle.std.proofs.lemmas.List.{get_or_read}
use Rattle.std.proofs.lemmas.Option.{slice_get_read}
use Rattle.conflict_classes.specs.Classes.{place_at}
use Rattle.sweep_base.specs.Held.{acquire_in}
use Rattle.sweep_base.proofs.Public.{section_kept}
use Rattle.conflict_classes.proofs.guards.Guarding.start.Goals as goal

pub index-requires : goal.index-requires
index-requires c = let low = c.requires.classes.known c.args.number c.index-class.result.now (slice_get_read c.args.classes.now.of.items (length c.args.classes.now.of.items) c.args.number c.index-class.result.now refl c.requires.number c.index-class.ensures) in omega (arith, low, c.requires.locks)

pub slot_of-requires : goal.slot_of-requires
slot_of-requires c = record { acquires = (section_kept c.args.graph.now c.args.held.now c.requires.held c.in-Some.lock _ c.in-Some-acquire.acquire (sym c.acquire.ensures ∙ c.in-Some-acquire.is)).acquires }

pub returns : goal.returns
returns c x h =
    let own = slice_get_read c.args.classes.now.of.items (length c.args.classes.now.of.items) c.args.number c.index-class.result.now refl c.requires.number c.index-class.ensures in
    let low = c.requires.classes.known c.args.number c.index-class.result.now own in
    let openings = c.args.self.now.openings.items in
    let p = c.slot_of.result in
    let small : p < length openings = omega (arith, c.slot_of.ensures.within, c.requires.openings) in
    let read = get_or_read openings p c.index-2.result.now small c.index-2.ensures 0 in
    let at : c.index-place.result.now ≡ place_at c.args.classes.now.sites.items c.args.number = get_or_read c.args.classes.now.sites.items c.args.number c.index-place.result.now (omega (arith, c.requires.number, c.requires.classes.numbered.size)) c.index-place.ensures 0 in
    record {
      class = c.index-class.result.now;
      lock = c.in-Some.lock;
      acquire = c.in-Some-acquire.acquire;
      class_is = own;
      lock_is = sym (get_or_read c.args.self.now.locks.items c.index-class.result.now c.index.result.now (omega (arith, low, c.requires.locks)) c.index.ensures None) ∙ c.in-Some.is;
      acquire_is = subst (λ z. acquire_in c.args.held.now c.in-Some.lock (slice_index c.args.order.now z) ≡ Some c.in-Some-acquire.acquire) at (sym c.acquire.ensures ∙ c.in-Some-acquire.is);
      before = subst (λ z. x < slice_index openings z) c.slot_of.ensures.slot (omega (arith, read, h));
    }
