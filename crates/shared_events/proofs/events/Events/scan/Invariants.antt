use Rattle.std.proofs.Common.{◌≡◌, ◌-◌, ◌≤◌}
use Rattle.event_table.specs.declared.handle.Handle.{Handle}
use Rattle.shared_events.specs.Seats.{IsPast}
use Rattle.shared_events.specs.Views.{IsOf, Scanned, AreHeld}
use Rattle.shared_events.proofs.events.Events.scan.Given as goal

abbrev pub decreases-loop-slot : goal.decreases-loop-slot
decreases-loop-slot l = l.high - l.slot

abbrev pub invariant-loop-slot : goal.invariant-loop-slot
invariant-loop-slot l = record {
  at : IsOf l.self l.maker.inner;
  from : l.low ≤ l.slot;
  made : (l.maker.inner.me.0.made ≡ l.fn.maker.inner.me.0.made) × (l.maker.next ≡ l.fn.maker.next);
  held : AreHeld l.self.shape l.fn.maker.inner.me.0.made l.fn.maker.inner.me.0 l.low l.slot;
  known : (h : Handle) → IsPast l.fn.maker.inner.me.0 h → IsPast l.maker.inner.me.0 h;
  scanned : Scanned l.self.shape l.fn.maker.inner.me.0.made l.fn.maker.inner.me.0 l.maker.inner.me.0 l.low l.slot;
}
