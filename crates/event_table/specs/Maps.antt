-- What holds of the words of a table: chains of waiters, slots and marks.
use Rattle.std.specs.Prelude.{◌≡◌, ◌<◌, true, length}
use Rattle.event_table.specs.EventMap.{EventMap, life_at}
use Rattle.event_table.specs.declared.handle.Handle.{Handle}

-- A pending handle
pub record IsNow (m : EventMap) (h : Handle) : Type 0 where
  pub pending : (life_at m h.slot).is_pending ≡ true
  pub last : h.gen_ ≡ length (life_at m h.slot).fates
  pub near : h.slot < length m.slots
