use Rattle.std.proofs.Common.{length, ◌∙◌, ap, arith}
use Rattle.std.proofs.lemmas.List.{length-set}
use Rattle.event_table.specs.EventMap.{EventMap}
use Rattle.run_lists.proofs.MarkFacts.{marked_ended}
use Rattle.run_lists.proofs.events.LineEvents.end.Goals as goal

pub invariant_of-self : goal.invariant_of-self
invariant_of-self c =
    let s = c.self.inside in
    let inv = c.self.invariant in
    let is = c.end.ensures.map in
    let waiters = ap (λ (m : EventMap). m.waiters) is in
    let slots = ap (λ (m : EventMap). length m.slots) is ∙ length-set s.table.slots _ _ in
    record {
      marked = marked_ended s.table c.end.new.self s.busy.items _ _ is c.end.ensures.free inv.marked;
      room = omega (arith, waiters, inv.room);
      each = omega (arith, waiters, inv.each);
      waiters = omega (arith, waiters, inv.waiters);
      slots = omega (arith, slots, inv.slots);
    }
