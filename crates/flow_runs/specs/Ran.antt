-- What is written where the graph of a flow is run or evaluated.
use Rattle.std.specs.Prelude.{◌≡◌, ◌⊎◌, ℕ, ◌<◌, Bool, List, length, map, Some, slice_get}
use Rattle.basics.specs.Lists.{numbers_below}
use Rattle.realm_io.specs.SinkState.{SinkState}
use Rattle.graph_terms.specs.declared.outcome.Outcome.{Outcome}
use Rattle.graph_terms.specs.declared.format.Format.{Format}
use Rattle.graph_terms.specs.Graph.{GraphValue, written_in, columns}
use Rattle.graph_meaning.specs.Evaluation.{order, outcome, column_of}
use Rattle.graph_words.specs.Text.{GraphText}
use Rattle.command_line.specs.declared.request.Action.TheVariants.{Run, Eval}
use Rattle.command_line.specs.declared.request.Request.{Request}
use Rattle.flow_order.specs.Meaning.{flow_end, flow_cells}
use Rattle.flow_order.specs.Written.{Keeps}
use Rattle.flow_top.specs.FlowText.{FlowText}
use Rattle.flow_top.specs.Answer.{IsFlowAnswer}
use Rattle.program_io.specs.Delivered.{Delivered}
use Rattle.graph_answers.specs.Answer.{report_with, IsDone}

-- an outcome of a graph that keeps the lines of a flow, in whatever format: each of these ended, and each column has the cells, as the flow means where sums commute or not
pub record IsFlowOutcome (f : GraphValue) (commute : Bool) (g : GraphValue) (o : Outcome) : Type 0 where
  pub place : ℕ → ℕ
  pub keeps : Keeps (written_in g.format f) g place
  pub ends : (i : ℕ) → i < length f.lines → slice_get o.ends (place i) ≡ Some (flow_end f commute i)
  pub columns_are : o.columns ≡ map (column_of f (flow_cells f commute)) (numbers_below (length (columns f)))

-- the bytes are the text of a flow, and the report of such an outcome of its graph was written, with the text of a trace behind it where that was asked for
pub record RanFlow (bytes : List ℕ) (commute : Bool) (text : List ℕ) (traced : Bool) (old new : SinkState) : Type 0 where
  pub flow : GraphValue
  pub is_text : FlowText bytes flow
  pub graph : GraphValue
  pub graph_text : GraphText text graph
  pub is_outcome : IsFlowOutcome flow commute graph (outcome graph (order graph))
  pub trace : List ℕ
  pub delivered : Delivered old new (report_with traced graph trace)

abbrev pub RunsMeanFlows : Type 0
RunsMeanFlows = (bytes : List ℕ) (commute : Bool) (format : Format) (text : List ℕ) → IsFlowAnswer bytes commute format text → (request : Request) → (request.action ≡ Run) ⊎ (request.action ≡ Eval) →
    (old new : SinkState) → IsDone request text old new → RanFlow bytes commute text request.trace old new
