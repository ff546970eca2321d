use Rattle.std.proofs.Common.{◌≤◌}
use Rattle.std.specs.Vec.{vec_capacity}
use Rattle.event_table.proofs.FreeSlots.{Fills}
use Rattle.event_table.proofs.word.free_slots.Given as goal

abbrev pub invariant-loop-slot : goal.invariant-loop-slot
invariant-loop-slot l = record {
  low : l.slot ≤ l.slots;
  room : vec_capacity l.initial.free ≤ vec_capacity l.free;
  fills : Fills l.slots l.words l.slot l.free.items;
}

abbrev pub decreases-loop-slot : goal.decreases-loop-slot
decreases-loop-slot l = l.slot
