-- What a quiet run answers for each line.
use Rattle.std.specs.Prelude.{◌≡◌, ℕ, List, length, Option, Some, None, slice_get, slice_index}
use Rattle.graph_terms.specs.declared.outcome.End.{End}
use Rattle.graph_terms.specs.declared.outcome.End.TheVariants.{Done}
use Rattle.graph_terms.specs.declared.outcome.Answer.{Answer}
use Rattle.graph_terms.specs.declared.outcome.Answer.TheVariants as outcomes
use Rattle.graph_terms.specs.declared.verb.Verb.{Verb}
use Rattle.graph_terms.specs.declared.verb.Verb.TheVariants.{Phase}
use Rattle.graph_terms.specs.Graph.{GraphValue, verb_at}
use Rattle.event_table.specs.declared.handle.Handle.{Handle}
use Rattle.event_table.specs.declared.handle.Answer.{Answer as EventAnswer}
use Rattle.event_table.specs.declared.handle.Answer.TheVariants as events
use Rattle.event_table.specs.EventMap.{EventMap, answer}
use Rattle.run_state.specs.Run.{LineStage, stage_at, end_so_far}

-- the answer of an event, as the outcome has it
abbrev pub answer_shown : EventAnswer → Answer
answer_shown events.Pending = outcomes.Pending
answer_shown events.Triggered = outcomes.Triggered
answer_shown events.Poisoned = outcomes.Poisoned

-- each answer is that of the line's handle in the table
pub record AsksHandles (handles : List Handle) (table : EventMap) (answers : List Answer) : Type 0 where
  pub each : length answers ≡ length handles
  pub asked : (i : ℕ) (h : Handle) (a : EventAnswer) → slice_get handles i ≡ Some h → answer table h ≡ Some a → slice_get answers i ≡ Some (answer_shown a)

-- the value of a phase that is done, and none for any other line
abbrev pub phase_for : End → Option Verb → ℕ → Option ℕ
phase_for Done (Some (Phase b)) value = Some value
phase_for _ _ value = None

abbrev pub phase_of_line : GraphValue → List LineStage → List ℕ → ℕ → Option ℕ
phase_of_line g stages values i = phase_for (end_so_far (stage_at stages i)) (verb_at g i) (slice_index values i)
