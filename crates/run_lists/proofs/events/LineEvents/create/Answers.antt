use Rattle.std.proofs.Common.{[], ◌∷◌, List, length, length-append, ◌∙◌, ap, arith}
use Rattle.std.proofs.lemmas.List.{length-set}
use Rattle.event_table.specs.declared.handle.Handle.{Handle}
use Rattle.event_table.specs.EventMap.{EventMap}
use Rattle.run_lists.specs.Events.{EventsValue}
use Rattle.run_lists.proofs.MarkFacts.{marked_created}
use Rattle.run_lists.proofs.events.LineEvents.create.Goals as goal

pub invariant_of-self : goal.invariant_of-self
invariant_of-self c =
    let s = c.self.inside in
    let inv = c.self.invariant in
    let map = c.in-Some.ensures.map in
    let h = c.in-Some.handle in
    let waiters = ap (λ (m : EventMap). m.waiters) map.0 in
    let slots = ap (λ (m : EventMap). length m.slots) map.0 ∙ length-set s.table.slots h.slot _ in
    let old = ap (λ (v : EventsValue). length v.handles) c.self.view_is in
    let table = ap (λ (v : EventsValue). v.table.waiters) c.self.view_is in
    let more = ap (λ (l : List Handle). length l) c.push_within.ensures.items ∙ length-append s.handles.items (h ∷ []) in
    record {
      marked = marked_created s.table c.create.new.self s.busy.items h.slot map.0 map.2.near c.in-Some.ensures.free inv.marked;
      room = omega (arith, waiters, inv.room, c.push_within.ensures.capacity);
      each = omega (arith, more, waiters, old, table, c.requires.left);
      waiters = omega (arith, waiters, inv.waiters);
      slots = omega (arith, slots, inv.slots);
    }
