use Rattle.std.proofs.Common.{◌≡◌, take}
use Rattle.graph_copies.proofs.lines.copy_of_events.Given as goal

abbrev pub invariant-loop-event : goal.invariant-loop-event
invariant-loop-event l = (l.copy ≡ take l.event-index l.event-items) × (l.event-items ≡ l.events)
