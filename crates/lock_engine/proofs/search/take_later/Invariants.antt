use Rattle.std.proofs.Common.{◌≡◌, None}
use Rattle.lock_engine.specs.Seats.{KeepsPlace}
use Rattle.lock_engine.proofs.search.take_later.Given as goal

abbrev pub invariant-loop-turn : goal.invariant-loop-turn
invariant-loop-turn g l = KeepsPlace l.fn.lock.table_id l.fn.seat l.seat × (l.seat.me.0.line ≡ None)
