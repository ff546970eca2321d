use Rattle.std.proofs.Common.{◌≡◌}
use Rattle.lock_engine.specs.Seats.{IsWaiting, HasDone, view_of}
use Rattle.lock_engine.proofs.workers.LockSharedLock.work.Given as goal

abbrev pub invariant-loop-turn : goal.invariant-loop-turn
invariant-loop-turn g l =
    (goal.iterator-loop-turn g).can_next l._turn-iterator × (goal.iterator-loop-turn g).is_finite l._turn-iterator
    × IsWaiting l.fn.self.table_id l.seat × HasDone l.seat.me.0 l.done × (l.seat.me.0.parts ≡ (view_of l.fn.badge).parts) × (l.seat.me.0.core.graph ≡ l.fn.graph)
