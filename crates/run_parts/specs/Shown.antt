-- What the parts that a run leaves show of its state.
use Rattle.std.specs.Prelude.{◌≡◌, ◌<◌, ℕ, List, length, IsTrue, Option, Some, None, slice_get, slice_index, slice_index_or}
use Rattle.index_spaces.specs.Column.{ColumnValue}
use Rattle.graph_terms.specs.declared.outcome.End.TheVariants.{Waiting}
use Rattle.graph_terms.specs.declared.verb.Verb.TheVariants.{Phase}
use Rattle.graph_terms.specs.Graph.{GraphValue, columns, column_space, verb_at}
use Rattle.event_table.specs.declared.handle.Handle.{Handle}
use Rattle.event_table.specs.EventMap.{EventMap, no_event, IsFree}
use Rattle.run_state.specs.Run.{LineStage, Unissued, Issued, Out, Ending, Ended, Home, Run, stage_at, time_at, place_at, end_so_far, started, ended}
use Rattle.run_state.specs.Sound.{Sound}
use Rattle.run_parts.specs.declared.answers.Stage.{Stage}
use Rattle.run_parts.specs.declared.answers.Stage.TheVariants as stages
use Rattle.run_parts.specs.declared.states.LineState.{LineState}
use Rattle.run_parts.specs.LineEvents.{AreEvents}

-- how far a line has come
abbrev pub stage_of : LineStage → Stage
stage_of Unissued = stages.Unissued
stage_of Issued = stages.Issued
stage_of Out = stages.Out
stage_of (Ending x) = stages.Out
stage_of (Ended x) = stages.Ended

-- the state of a line that isn't issued
abbrev pub blank_state : LineState
blank_state = record { stage = stages.Unissued; end = Waiting; handle = no_event; time = 0 }

abbrev pub state_at : List LineState → ℕ → LineState
state_at lines i = slice_index_or lines i blank_state

-- THE STATE THAT IS SHOWN. A run, and the handles of its issued lines
pub record LinesShow (g : GraphValue) (run : Run) (handles : List Handle) (lines : List LineState) : Type 0 where
  pub each_line : length lines ≡ length g.lines
  pub stage : (i : ℕ) (s : LineState) → slice_get lines i ≡ Some s → s.stage ≡ stage_of (stage_at run.stages i)
  pub is_end : (i : ℕ) (s : LineState) → slice_get lines i ≡ Some s → s.end ≡ end_so_far (stage_at run.stages i)
  pub named : (i : ℕ) (s : LineState) → slice_get lines i ≡ Some s → s.handle ≡ slice_index_or handles i no_event
  pub timed : (i t : ℕ) (s : LineState) → slice_get lines i ≡ Some s → time_at run.times i ≡ Some t → s.time ≡ t

-- each column is at home
pub record HomesShow (g : GraphValue) (run : Run) (homes : List (Option ColumnValue)) : Type 0 where
  pub each_home : length homes ≡ length (columns g)
  pub at_home : (c : ℕ) → c < length (columns g) → (x : ColumnValue) × (slice_get homes c ≡ Some (Some x)) × (x.space ≡ column_space g c) × (place_at run.places c ≡ Home x.cells)

-- a value for each phase, and none for another line
pub record PhasesShow (g : GraphValue) (run : Run) (phases : List (Option ℕ)) : Type 0 where
  pub each_line : length phases ≡ length g.lines
  pub value : (p b : ℕ) → verb_at g p ≡ Some (Phase b) → slice_get phases p ≡ Some (Some (slice_index run.values p))
  pub none : (p : ℕ) → p < length g.lines → ((b : ℕ) → verb_at g p ≡ Some (Phase b) → ⊥) → slice_get phases p ≡ Some None

-- they show a sound state in which no work is out, with a table in which each waiter is free
pub record IsShown (g : GraphValue) (run : Run) (handles : List Handle) (lines : List LineState) (table : EventMap) (homes : List (Option ColumnValue)) (phases : List (Option ℕ)) : Type 0 where
  pub sound : Sound g run
  pub quiet : (i : ℕ) → IsTrue (started run.stages i) → IsTrue (ended run.stages i)
  pub lines_show : LinesShow g run handles lines
  pub homes_show : HomesShow g run homes
  pub phases_show : PhasesShow g run phases
  pub events : AreEvents g run.stages handles table
  pub free : (k : ℕ) → k < table.waiters → IsFree table k
