-- What is answered to the bytes of a flow, and to those of any input.
use Rattle.std.specs.Prelude.{◌≡◌, ℕ, ◌<◌, ◌≤◌, ◌⊎◌, Bool, true, false, List, [], ◌++◌, length, codes, decimal, Option, Some}
use Rattle.std.specs.List.{list_all}
use Rattle.graph_terms.specs.declared.format.Format.TheVariants.{One}
use Rattle.graph_terms.specs.declared.why.Why.{Why}
use Rattle.graph_terms.specs.declared.why.Why.TheVariants as reasons
use Rattle.graph_terms.specs.Graph.{GraphValue}
use Rattle.graph_terms.specs.Spelling.{header}
use Rattle.graph_terms.specs.Limits.{limits}
use Rattle.graph_words.specs.Text.{text}
use Rattle.task_flow.specs.Construction.{is_over, written}
use Rattle.flow_top.specs.Answer.{AnswersFlow, IsFaultOfFlow}
use Rattle.flow_top.specs.FlowText.{flow_header, HasNoFlowHeader, FlowText, IsWordsFault, IsFormFault, IsRefusedSo, has_event_verb, other_word}
use Rattle.flow_top.specs.declared.FlowFault.TheVariants as fault
use Rattle.explain_text.specs.Unread.{unread_text, mark_text}
use Rattle.explain_text.specs.Visible.{is_plain, visible}
use Rattle.explain_top.specs.Answer.{IsAnswerIn, IsUnreadText, asked, most_bytes, told, refused_line, words_of}
use Rattle.explain_top.specs.declared.answer.Verdict.{Verdict}
use Rattle.explain_top.specs.declared.answer.Verdict.TheVariants as verdict

-- what is told of a flow of which realm-flow writes the graph
abbrev pub flow_text : GraphValue → List ℕ
flow_text f = codes "accepted flow\ndeclarations: " ++ (decimal (length f.decls) ++ (codes ", operations: " ++ (decimal (length f.lines) ++ codes "\nrealm-flow writes its graph; to see what that needs: realm-flow FLOW | realm-explain\n")))

-- of a line with which the graph passes a limit
abbrev pub over_text : List (List ℕ) → ℕ → List ℕ
over_text ls number = unread_text ls number reasons.Limit ++ codes "up to this line the graph of the flow passes a limit of format 1: realm-flow --format 3 writes it with the limits of format 3\n"

-- of a line that graphs have and flows have not, with the word for which that is so
abbrev pub other_rule : Bool → List ℕ
other_rule true = codes "a flow has no events: its verbs are fill, copy, reduce and task, and realm-flow finds what waits for what\n"
other_rule false = codes "a flow has no on: leave it out, realm-flow finds what waits for what\n"

abbrev pub other_told : ℕ → List ℕ → List (List ℕ) → List ℕ
other_told number line ws = mark_text number line ws (Some (other_word ws)) ++ other_rule (has_event_verb ws)

abbrev pub other_text : List (List ℕ) → ℕ → List ℕ
other_text ls number = unread_text ls number reasons.Syntax ++ other_told number (refused_line ls number) (words_of ls number)

-- what of the forms of a graph's lines a flow has
abbrev pub flow_rule : Why → List ℕ
flow_rule reasons.Syntax = codes "in a flow the verbs are fill, copy, reduce and task, and no line has on\n"
flow_rule _ = []

-- the bytes are the text of a flow of which realm-flow writes the graph, which means it, and the answer is its text
pub record IsAcceptedFlow (bytes out : List ℕ) : Type 0 where
  pub flow : GraphValue
  pub is_text : FlowText bytes flow
  pub graph_text : List ℕ
  pub answered : AnswersFlow flow false graph_text
  pub text : out ≡ flow_text flow

-- the graph of the flow passes a limit with this line
pub record IsOverFlow (bytes out : List ℕ) : Type 0 where
  pub flow : GraphValue
  pub is_text : FlowText bytes flow
  pub number : ℕ
  pub over : IsFaultOfFlow flow false (fault.Line number reasons.Limit)
  pub text : out ≡ over_text (asked false bytes).lines number

-- this is the first line that flows have not
pub record IsOtherFlow (bytes out : List ℕ) : Type 0 where
  pub rest : List ℕ
  pub begins : bytes ≡ flow_header ++ rest
  pub number : ℕ
  pub refused : IsWordsFault (header One ++ rest) number reasons.Syntax ⊎ IsFormFault (header One ++ rest) number reasons.Syntax
  pub text : out ≡ other_text (asked false bytes).lines number

-- the text of a graph with the same items is refused so, and the answer tells of the line as it does of a graph's
pub record IsRefusedFlow (all : Bool) (bytes out : List ℕ) : Type 0 where
  pub rest : List ℕ
  pub begins : bytes ≡ flow_header ++ rest
  pub number : ℕ
  pub why : Why
  pub above : Option GraphValue
  pub refused : IsRefusedSo (header One ++ rest) number why above
  pub front : List ℕ
  pub is_front : IsUnreadText (asked all bytes) number why above front
  pub text : out ≡ front ++ flow_rule why

abbrev pub IsFlowWhole : Bool → List ℕ → Verdict → List ℕ → Type 0
IsFlowWhole all bytes verdict.Accepted whole = IsAcceptedFlow bytes whole
IsFlowWhole all bytes verdict.Unfit whole = ⊥
IsFlowWhole all bytes verdict.Unread whole = IsRefusedFlow all bytes whole ⊎ (IsOtherFlow bytes whole ⊎ IsOverFlow bytes whole)

-- what is told of the answer to a flow of these bytes, as it is written
pub record IsFlowAnswerIn (all : Bool) (bytes : List ℕ) (verdict : Verdict) (out : List ℕ) : Type 0 where
  pub whole : List ℕ
  pub answers : IsFlowWhole all bytes verdict whole
  pub is_told : out ≡ told (most_bytes all) (visible whole)
  pub few : length out ≤ most_bytes all
  pub plain : list_all is_plain out ≡ true

-- the same of an input: of a flow, where the bytes begin as its text does, and else of a graph
abbrev pub IsInputAnswer : Bool → Bool → List ℕ → Verdict → List ℕ → Type 0
IsInputAnswer ends all bytes verdict out = (HasNoFlowHeader bytes × IsAnswerIn ends all bytes verdict out) ⊎ IsFlowAnswerIn all bytes verdict out

-- the graph of a flow passes no limit of format 1, where its sums keep their order
pub record FitsFormatOne (f : GraphValue) : Type 0 where
  pub within : (j : ℕ) → j < length f.lines → is_over f false j ≡ false
  pub short : length (text (written f false)) ≤ (limits f.format).text
