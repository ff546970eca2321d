-- What holds of a table at each moment, since the rule holds then.
use Rattle.std.specs.Prelude.{◌≡◌, ℕ, ◌+◌, ◌*◌, ◌<◌, Contains, slice_index}
use mathlib.Core.Option.{some}
use lib.ListN.{get_elem?}
use Rattle.atomic_table.specs.Table.{State}
use Rattle.basics.specs.Sums.{total, only}
use Rattle.shared_events.specs.Rule.{Orderly, held}
use Rattle.event_table.specs.Words.{turns_of}
use Rattle.event_table.specs.declared.handle.Handle.{Handle}
use Rattle.event_table.specs.declared.handle.Shape.{Shape}
use Rattle.shared_events.specs.declared.view.View.{View}

-- a waiter is in one place: in a hand, on a pending handle, or caught
abbrev pub OnePlace : Type 0
OnePlace = (key : Shape) (s : State Unit View) (o : Orderly key s) (k : ℕ) → k < key.waiters → total (held (only k)) s.views + total (total (only k)) o.chains ≡ 1

-- while a token has the right to end a handle, the word of its slot shows it pending
abbrev pub PendingWhileHeld : Type 0
PendingWhileHeld = (key : Shape) (s : State Unit View) → Orderly key s → (j : ℕ) (v : View) (h : Handle) → get_elem? s.views j ≡ some v → Contains v.rights h → turns_of (slice_index s.words h.slot) ≡ 2 * h.gen_ + 1
