use Rattle.std.proofs.Common.{◌<◌, ◌≤◌, ℕ, length}
use Rattle.std.specs.Vec.{vec_capacity}
use Rattle.std.specs.Slots.{slots_items}
use Rattle.event_table.specs.Kept.{IsTakenOver}
use Rattle.event_table.proofs.table.EventTable.taking.Given as goal

abbrev pub invariant-loop-slot : goal.invariant-loop-slot
invariant-loop-slot l = record {
  done : (i : ℕ) → i < l.slot → IsTakenOver l.own l.shape l.words.items (slots_items l.closed.words) i;
  size : length l.initial.words.items ≤ length l.words.items;
  room : vec_capacity l.initial.words ≤ vec_capacity l.words;
}
