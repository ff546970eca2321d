use Rattle.std.proofs.Common.{◌≡◌, None}
use Rattle.lock_engine.specs.Seats.{KeepsPlace}
use Rattle.lock_engine.proofs.next_line.wait_for_line.Given as goal

abbrev pub invariant-loop-look : goal.invariant-loop-look
invariant-loop-look g l =
    (goal.iterator-loop-look g).can_next l._look-iterator × (goal.iterator-loop-look g).is_finite l._look-iterator
    × KeepsPlace l.fn.lock.table_id l.fn.seat l.seat × (l.seat.me.0.line ≡ None)
