-- The graphs of a session that have all run, and what their events answer.
use Rattle.std.specs.Prelude.{◌≡◌, ◌≢◌, ℕ, ◌<◌, ◌≤◌, length, Contains, Some, slice_get}
use Rattle.event_table.specs.declared.handle.Handle.{Handle}
use Rattle.event_table.specs.EventMap.{answer, no_event, IsCreated}
use Rattle.graph_meaning.specs.Evaluation.{eval_end}
use Rattle.realm_session.specs.Recorded.{answer_for}
use Rattle.session_text.specs.declared.limits.TheConstants.{MAX_GRAPHS}
use Rattle.session_run.specs.declared.running.RanGraph.{RanGraph}
use Rattle.session_run.specs.declared.ended.Ended.{Ended}
use Rattle.session_run.specs.Running.{IsOutcome}

-- this is a line of the graph at this place
abbrev pub HasLine : Ended → ℕ → ℕ → Type 0
HasLine e k i = (x : RanGraph) × (slice_get e.graphs.items k ≡ Some x) × (i < length x.checked.graph.lines)

-- the event of a line of a graph
pub record EventOf (e : Ended) (x : RanGraph) (i : ℕ) : Type 0 where
  pub handle : Handle
  pub is_handle : slice_get x.handles i ≡ Some handle
  pub created : IsCreated e.left handle
  pub real : handle ≢ no_event
  pub answered : answer e.left handle ≡ Some (answer_for (eval_end x.checked.graph i))

pub record IsEnded (e : Ended) : Type 0 where
  pub few : length e.graphs.items ≤ MAX_GRAPHS
  pub outcomes : (x : RanGraph) → Contains e.graphs.items x → IsOutcome x.checked.graph x.outcome
  pub events : (k i : ℕ) (x : RanGraph) → slice_get e.graphs.items k ≡ Some x → i < length x.checked.graph.lines → EventOf e x i
