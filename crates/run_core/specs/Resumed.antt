-- The state from which a core is resumed: what the states of the lines show, and the core that is in it.
use Rattle.std.specs.Prelude.{◌≡◌, ◌≢◌, ◌<◌, ℕ, Bool, true, false, List, length, IsTrue, Option, Some, None, slice_index}
use Rattle.index_spaces.specs.Column.{ColumnValue}
use Rattle.graph_terms.specs.declared.outcome.End.{End}
use Rattle.graph_terms.specs.declared.outcome.End.TheVariants.{Done}
use Rattle.graph_terms.specs.declared.verb.Verb.TheVariants.{Phase}
use Rattle.graph_terms.specs.Graph.{GraphValue, verb_at}
use Rattle.graph_terms.specs.Reservations.{Acquires, Releases, both_shared}
use Rattle.event_table.specs.declared.handle.Handle.{Handle}
use Rattle.event_table.specs.EventMap.{EventMap, IsFree}
use Rattle.run_state.specs.Run.{Run, is_listed, list_at, started, ended}
use Rattle.run_state.specs.Sound.{Sound}
use Rattle.run_parts.specs.declared.answers.Stage.{Stage}
use Rattle.run_parts.specs.declared.answers.Stage.TheVariants as stages
use Rattle.run_parts.specs.declared.progress.Progress.{Progress}
use Rattle.run_parts.specs.declared.progress.Progress.TheVariants as progress
use Rattle.run_parts.specs.declared.states.LineState.{LineState}
use Rattle.run_parts.specs.LineEvents.{AreEvents}
use Rattle.run_parts.specs.Shown.{state_at, LinesShow, HomesShow, PhasesShow}
use Rattle.run_core.specs.Core.{CoreValue}
use Rattle.run_core.specs.Readers.{no_lendings}

-- WHAT IS READ OF A STATE: how far the line has come, whether it has ended, and the value of a phase
abbrev pub progress_by : Stage → End → Progress
progress_by stages.Unissued x = progress.Unissued
progress_by stages.Issued x = progress.Issued
progress_by stages.Out x = progress.Out
progress_by stages.Ended x = progress.Ended x

abbrev pub progress_for : LineState → Progress
progress_for s = progress_by s.stage s.end

abbrev pub stage_is_over : Stage → Bool
stage_is_over stages.Unissued = false
stage_is_over stages.Issued = false
stage_is_over stages.Out = false
stage_is_over stages.Ended = true

abbrev pub over_at : List LineState → ℕ → Bool
over_at lines i = stage_is_over (state_at lines i).stage

abbrev pub value_or_zero : Option ℕ → ℕ
value_or_zero None = 0
value_or_zero (Some v) = v

-- an acquire that has ended with Done and whose release has not ended holds its reservation
pub record HoldsNow (g : GraphValue) (lines : List LineState) (q l : ℕ) : Type 0 where
  pub acquires : Acquires g q l
  pub over : over_at lines q ≡ true
  pub is_done : (state_at lines q).end ≡ Done
  pub kept : (r : ℕ) → Releases g r q → over_at lines r ≡ true → ⊥

-- two acquires that hold one reservation are both shared
abbrev pub AreBeside : GraphValue → List LineState → Type 0
AreBeside g lines = (l q k : ℕ) → HoldsNow g lines q l → HoldsNow g lines k l → q ≢ k → both_shared g q k ≡ true

-- the holders are those whose release is below i
pub record FoundBelow (g : GraphValue) (lines : List LineState) (holders : List (List ℕ)) (i : ℕ) : Type 0 where
  pub only : (l q : ℕ) → is_listed (list_at holders l) q ≡ true → HoldsNow g lines q l × (r : ℕ) × (r < i) × Releases g r q
  pub all : (l q r : ℕ) → r < i → Releases g r q → HoldsNow g lines q l → is_listed (list_at holders l) q ≡ true

-- the four show a sound state in which no work is out, with a table as large as this core's in which each waiter is free
pub record ShowState (c : CoreValue) (run : Run) (handles : List Handle) (lines : List LineState) (table : EventMap) (homes : List (Option ColumnValue)) (phases : List (Option ℕ)) : Type 0 where
  pub sound : Sound c.graph run
  pub quiet : (i : ℕ) → IsTrue (started run.stages i) → IsTrue (ended run.stages i)
  pub lines_show : LinesShow c.graph run handles lines
  pub homes_show : HomesShow c.graph run homes
  pub phases_show : PhasesShow c.graph run phases
  pub events : AreEvents c.graph run.stages handles table
  pub slots : length table.slots ≡ length c.table.slots
  pub free : (k : ℕ) → k < table.waiters → IsFree table k

-- THE CORE THAT IS IN IT, without a host. What it lists may stand in another order
pub record InState (g : GraphValue) (run : Run) (handles : List Handle) (table : EventMap) (c : CoreValue) : Type 0 where
  pub graph : c.graph ≡ g
  pub handled : c.handles ≡ handles
  pub tabled : c.table ≡ table
  pub unhosted : c.hosted ≡ false
  pub unlent : c.lendings ≡ no_lendings g
  pub stages : c.run.stages ≡ run.stages
  pub times : c.run.times ≡ run.times
  pub clock : c.run.clock ≡ run.clock
  pub places : c.run.places ≡ run.places
  pub values : (p b : ℕ) → verb_at g p ≡ Some (Phase b) → slice_index c.run.values p ≡ slice_index run.values p
  pub back : (k i : ℕ) → is_listed (list_at c.run.back k) i ≡ is_listed (list_at run.back k) i
  pub arrived : (i : ℕ) → is_listed c.run.arrived i ≡ is_listed run.arrived i
  pub holders : (l q : ℕ) → is_listed (list_at c.run.holders l) q ≡ is_listed (list_at run.holders l) q
  pub freed : (r q : ℕ) → Releases g r q → is_listed c.run.freed r ≡ is_listed run.freed r
