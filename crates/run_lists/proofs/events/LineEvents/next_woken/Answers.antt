use Rattle.std.proofs.Common.{List, length, ap, arith}
use Rattle.event_table.specs.EventMap.{SlotLife}
use Rattle.run_lists.proofs.MarkFacts.{marked_given}
use Rattle.run_lists.proofs.events.LineEvents.next_woken.Goals as goal

pub invariant_of-self-2 : goal.invariant_of-self-2
invariant_of-self-2 c =
    let s = c.self.inside in
    let inv = c.self.invariant in
    let gives = c.in_ok-line.ensures.some.0 in
    let slots = ap (λ (ls : List SlotLife). length ls) gives.4 in
    record {
      marked = marked_given s.table c.next_caught.new.self s.busy.items c.in_ok-line.line gives c.in_ok-line.ensures.some.1 c.in_ok-line.ensures.free inv.marked;
      room = omega (arith, gives.2, inv.room);
      each = omega (arith, gives.2, inv.each);
      waiters = omega (arith, gives.2, inv.waiters);
      slots = omega (arith, slots, inv.slots);
    }
