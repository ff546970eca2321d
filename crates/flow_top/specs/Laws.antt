-- What ties the answer for a flow to those who read it.
use Rattle.std.specs.Prelude.{◌≡◌, ℕ, ◌+◌, ◌^◌, ◌<◌, Bool, List, length, Option}
use Rattle.graph_terms.specs.declared.format.Format.{Format}
use Rattle.graph_terms.specs.declared.why.Why.{Why}
use Rattle.graph_terms.specs.Graph.{GraphValue, written_in}
use Rattle.graph_meaning.specs.Rules.{Accepted}
use Rattle.graph_words.specs.Text.{GraphText}
use Rattle.graph_reader.specs.FirstFault.{FirstFault}
use Rattle.graph_reader.specs.Reading.{IsUnreadBy}
use Rattle.flow_order.specs.Written.{MeansFlow}
use Rattle.flow_top.specs.FlowText.{FlowText}
use Rattle.flow_top.specs.Answer.{IsFlowAnswer}

-- the bytes are the text of one flow, the other ones that of a graph, and whatever graph is read from these is accepted, has the format and means the flow
pub record Answered (bytes : List ℕ) (commute : Bool) (format : Format) (out : List ℕ) : Type 0 where
  pub flow : GraphValue
  pub is_text : FlowText bytes flow
  pub one_flow : (h : GraphValue) → FlowText bytes h → h ≡ flow
  pub graph : GraphValue
  pub graph_text : GraphText out graph
  pub accepted : (g : GraphValue) → GraphText out g → Accepted g
  pub means : (g : GraphValue) → GraphText out g → MeansFlow (written_in format flow) commute g

abbrev pub AnswersAreRead : Type 0
AnswersAreRead = (bytes : List ℕ) (commute : Bool) (format : Format) (out : List ℕ) → IsFlowAnswer bytes commute format out → Answered bytes commute format out

-- the declarations and the lines of a flow's text are so few that the number of each fits
abbrev pub FewItems : Type 0
FewItems = (bytes : List ℕ) (f : GraphValue) → FlowText bytes f → length f.decls + length f.lines + 2 < 2 ^ 32

-- bytes that are read as the text of no graph have the line that is told as their first fault
abbrev pub UnreadHasFault : Type 0
UnreadHasFault = (bytes : List ℕ) (number : ℕ) (reason : Why) (above : Option GraphValue) → IsUnreadBy bytes number reason above → FirstFault bytes number reason
