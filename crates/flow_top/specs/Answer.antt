-- What is answered for the text of a flow.
use Rattle.std.specs.Prelude.{◌≡◌, ℕ, ◌+◌, ◌<◌, ◌⊎◌, Bool, false, List, length}
use Rattle.graph_terms.specs.declared.format.Format.{Format}
use Rattle.graph_terms.specs.Limits.{limits}
use Rattle.graph_terms.specs.declared.why.Why.{Why}
use Rattle.graph_terms.specs.declared.why.Why.TheVariants as why
use Rattle.graph_terms.specs.Graph.{GraphValue, written_in}
use Rattle.graph_words.specs.Text.{text, GraphText}
use Rattle.task_flow.specs.Construction.{IsFirstOver, is_over, written}
use Rattle.flow_order.specs.Written.{MeansFlow}
use Rattle.flow_top.specs.FlowText.{FlowText, IsReadFault}
use Rattle.flow_top.specs.declared.FlowFault.{FlowFault}
use Rattle.flow_top.specs.declared.FlowFault.TheVariants as fault

-- the bytes are the text of a flow, and these that of its graph in a format, which means it, where sums commute or not
pub record IsFlowAnswer (bytes : List ℕ) (commute : Bool) (format : Format) (out : List ℕ) : Type 0 where
  pub flow : GraphValue
  pub is_text : FlowText bytes flow
  pub out_is : GraphText out (written (written_in format flow) commute)
  pub means : MeansFlow (written_in format flow) commute (written (written_in format flow) commute)

-- with a line of the flow its graph passes a limit
pub record IsLimitFault (bytes : List ℕ) (commute : Bool) (format : Format) (number : ℕ) (reason : Why) : Type 0 where
  pub flow : GraphValue
  pub is_text : FlowText bytes flow
  pub line : ℕ
  pub over : IsFirstOver (written_in format flow) commute line
  pub number_is : number ≡ length flow.decls + line + 2
  pub reason_is : reason ≡ why.Limit

-- with no line of the flow its graph passes a limit, but with its closing line the text of the graph is too long
pub record IsLengthFault (bytes : List ℕ) (commute : Bool) (format : Format) (number : ℕ) (reason : Why) : Type 0 where
  pub flow : GraphValue
  pub is_text : FlowText bytes flow
  pub within : (j : ℕ) → j < length flow.lines → is_over (written_in format flow) commute j ≡ false
  pub too_long : (limits format).text < length (text (written (written_in format flow) commute))
  pub number_is : number ≡ length flow.decls + length flow.lines + 2
  pub reason_is : reason ≡ why.Limit

-- these bytes are the text of the graph of a flow in the flow's format, which means it
pub record AnswersFlow (flow : GraphValue) (commute : Bool) (out : List ℕ) : Type 0 where
  pub out_is : GraphText out (written flow commute)
  pub means : MeansFlow flow commute (written flow commute)

-- the graph of a flow passes a limit with a line of it, or its text is too long with its closing line
pub record IsLineOver (flow : GraphValue) (commute : Bool) (number : ℕ) (reason : Why) : Type 0 where
  pub line : ℕ
  pub over : IsFirstOver flow commute line
  pub number_is : number ≡ length flow.decls + line + 2
  pub reason_is : reason ≡ why.Limit

pub record IsEndOver (flow : GraphValue) (commute : Bool) (number : ℕ) (reason : Why) : Type 0 where
  pub within : (j : ℕ) → j < length flow.lines → is_over flow commute j ≡ false
  pub too_long : (limits flow.format).text < length (text (written flow commute))
  pub number_is : number ≡ length flow.decls + length flow.lines + 2
  pub reason_is : reason ≡ why.Limit

abbrev pub IsFaultOfFlow : GraphValue → Bool → FlowFault → Type 0
IsFaultOfFlow flow commute (fault.Line number reason) = IsLineOver flow commute number reason ⊎ IsEndOver flow commute number reason
IsFaultOfFlow flow commute fault.NoMemory = Unit {0}

-- the text of a graph that ends with this line is too long
abbrev pub IsTooLong : GraphValue → ℕ → FlowFault → Type 0
IsTooLong g end (fault.Line number reason) = ((limits g.format).text < length (text g)) × (number ≡ end) × (reason ≡ why.Limit)
IsTooLong g end fault.NoMemory = Unit {0}

abbrev pub IsAnswerFault : List ℕ → Bool → Format → FlowFault → Type 0
IsAnswerFault bytes commute format (fault.Line number reason) = IsReadFault bytes (fault.Line number reason) ⊎ (IsLimitFault bytes commute format number reason ⊎ IsLengthFault bytes commute format number reason)
IsAnswerFault bytes commute format fault.NoMemory = Unit {0}
