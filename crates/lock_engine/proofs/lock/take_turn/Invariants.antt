use Rattle.std.proofs.Common.{◌≡◌}
use Rattle.lock_engine.specs.Seats.{IsWaiting}
use Rattle.lock_engine.proofs.lock.take_turn.Given as goal

abbrev pub invariant-loop : goal.invariant-loop
invariant-loop g l =
    (goal.iterator-loop g).can_next l.iterator' × (goal.iterator-loop g).is_finite l.iterator'
    × IsWaiting l.fn.lock.table_id l.seat × (l.seat.me ≡ l.fn.seat.me)
