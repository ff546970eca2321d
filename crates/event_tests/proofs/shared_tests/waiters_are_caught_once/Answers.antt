use Rattle.std.proofs.Common.{◌≡◌, sym, subst}
use Rattle.shared_events.specs.Seats.{HasSeen}
use Rattle.event_table.specs.declared.handle.Handle.{Handle}
use Rattle.shared_events.specs.declared.view.View.{View}
use Rattle.event_tests.proofs.shared_tests.waiters_are_caught_once.Goals as goal

seen_too : (v : View) (h h' : Handle) → HasSeen v h → h' ≡ h → HasSeen v h'
seen_too v h h' s e = subst (λ (x : Handle). HasSeen v x) (sym e) s

pub watch-second-requires-clause-seen : goal.watch-second-requires-clause-seen
watch-second-requires-clause-seen g c = c.watch-first.ensures.kept.0 _ (seen_too _ _ _ c.in-Some.ensures.some.2 c.handle-handle.ensures)
