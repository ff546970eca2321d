-- The handles of the issued lines, with the table that they stand in.
use Rattle.std.specs.Prelude.{◌≡◌, ℕ, ◌⊎◌, Bool, true, false, List, length, Contains, slice_get, Option, Some, None, filter_map}
use Rattle.event_table.specs.declared.handle.Handle.{Handle}
use Rattle.event_table.specs.EventMap.{EventMap, life_at, IsFree}
use Rattle.run_parts.specs.declared.answers.Stage.{Stage}
use Rattle.run_parts.specs.declared.answers.Stage.TheVariants as stages
use Rattle.run_parts.specs.declared.states.LineState.{LineState}

pub record EventsValue : Type 0 where
  pub handles : List Handle
  pub table : EventMap

-- a waiter is placed or caught
abbrev pub IsBusy : EventMap → ℕ → Type 0
IsBusy m k = ((i : ℕ) × Contains (life_at m i).waiting k) ⊎ ((h : Handle) × Contains m.caught (k, h))

-- which waiters are busy, one for each line
pub record AreMarked (m : EventMap) (busy : List Bool) : Type 0 where
  pub each : length busy ≡ m.waiters
  pub free : (k : ℕ) → slice_get busy k ≡ Some false → IsFree m k
  pub placed : (k : ℕ) → slice_get busy k ≡ Some true → IsBusy m k

-- the handle of a line where it is issued, and those of the issued ones of some lines
abbrev pub handle_by : Stage → Handle → Option Handle
handle_by stages.Unissued h = None
handle_by stages.Issued h = Some h
handle_by stages.Out h = Some h
handle_by stages.Ended h = Some h

abbrev pub handle_of_issued : LineState → Option Handle
handle_of_issued s = handle_by s.stage s.handle

abbrev pub issued_handles : List LineState → List Handle
issued_handles lines = filter_map handle_of_issued lines
