use Rattle.std.proofs.Common.{◌-◌, ◌≤◌, ◌<◌}
use Rattle.event_table.specs.declared.handle.Handle.{Handle}
use Rattle.event_table.specs.EventMap.{IsPlaced}
use Rattle.event_table.proofs.left.Left.place_of.Given as goal

abbrev pub decreases-loop-slot : goal.decreases-loop-slot
decreases-loop-slot l = l.self-inside.shape.slots - l.slot

abbrev pub invariant-loop-slot : goal.invariant-loop-slot
invariant-loop-slot l = record {
  within : l.slot ≤ l.self-inside.shape.slots;
  none : (h : Handle) → h.slot < l.slot → IsPlaced l.self l.waiter h → ⊥;
}
