use Rattle.std.proofs.Common.{◌≡◌}
use Rattle.lock_engine.specs.Seats.{IsWaiting}
use Rattle.lock_engine.proofs.lock.try_often.Given as goal

abbrev pub invariant-loop-try : goal.invariant-loop-try
invariant-loop-try l = IsWaiting l.fn.lock.table_id l.seat × (l.seat.me ≡ l.fn.seat.me) × (l.seat.table_id ≡ l.fn.seat.table_id)
