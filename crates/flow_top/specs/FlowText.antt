-- The text of a flow, and why bytes are none.
use Rattle.std.specs.Prelude.{◌≡◌, ℕ, ◌+◌, ◌-◌, ◌<◌, ◌==◌, ◌⊎◌, Bool, true, false, ◌&&◌, List, [], ◌∷◌, ◌++◌, length, drop, find, nat_le, cond, ◌||◌, Option, Some, None, slice_get, slice_index_or, codes}
use Rattle.std.specs.Option.{option_map_or}
use Rattle.graph_terms.specs.declared.table.Kind.{Kind}
use Rattle.graph_terms.specs.declared.table.Kind.TheVariants as kinds
use Rattle.graph_terms.specs.declared.table.TheConstants.{KINDS}
use Rattle.graph_terms.specs.Table.{kind_words}
use Rattle.graph_words.specs.Draft.{same_word, form_of, has_on, is_of_form}
use Rattle.graph_words.specs.Words.{pieces}
use Rattle.graph_terms.specs.declared.format.Format.TheVariants.{One}
use Rattle.graph_terms.specs.declared.verb.Line.{Line}
use Rattle.graph_terms.specs.declared.why.Why.{Why}
use Rattle.graph_terms.specs.declared.why.Why.TheVariants as why
use Rattle.graph_terms.specs.Graph.{GraphValue}
use Rattle.graph_terms.specs.Spelling.{header}
use Rattle.graph_words.specs.Text.{GraphText}
use Rattle.graph_reader.specs.FirstFault.{FirstFault}
use Rattle.flow_order.specs.Flow.{IsFlow, uses_columns}
use Rattle.graph_reader.specs.Reading.{is_operation, IsUnreadBy}
use Rattle.flow_top.specs.declared.FlowFault.{FlowFault}
use Rattle.flow_top.specs.declared.reading.FlowReading.{FlowReading}
use Rattle.flow_top.specs.declared.reading.FlowReading.TheVariants as readings
use Rattle.flow_top.specs.declared.FlowFault.TheVariants as fault

-- the first line
abbrev pub flow_header : List ℕ
flow_header = codes "realm-flow 1" ++ 10 ∷ []

abbrev pub HasNoFlowHeader : List ℕ → Type 0
HasNoFlowHeader bytes = (rest : List ℕ) → bytes ≡ flow_header ++ rest → ⊥

-- behind its first line the text of a flow is that of the graph with the same items
pub record FlowText (bytes : List ℕ) (f : GraphValue) : Type 0 where
  pub rest : List ℕ
  pub begins : bytes ≡ flow_header ++ rest
  pub is_text : GraphText (header One ++ rest) f
  pub is_flow : IsFlow f

-- a line of a flow uses columns and waits for nothing
abbrev pub is_flow_line : Line → Bool
is_flow_line l = uses_columns l.verb && (length l.on == 0)

abbrev pub AreFlowLines : GraphValue → Type 0
AreFlowLines g = (i : ℕ) (l : Line) → slice_get g.lines i ≡ Some l → is_flow_line l ≡ true

-- the first line that a flow has not
pub record IsFirstOther (g : GraphValue) (line : ℕ) : Type 0 where
  pub other : Line
  pub at : slice_get g.lines line ≡ Some other
  pub is_other : is_flow_line other ≡ false
  pub before : (i : ℕ) (l : Line) → i < line → slice_get g.lines i ≡ Some l → is_flow_line l ≡ true

-- the words of the line of number i of a text, from 0
abbrev pub words_of_line : List ℕ → ℕ → List (List ℕ)
words_of_line text i = pieces 32 (slice_index_or (pieces 10 text) i [])

-- the kinds of lines that no flow has
abbrev pub is_event_kind : Kind → Bool
is_event_kind kinds.User = true
is_event_kind kinds.Trigger = true
is_event_kind kinds.Cancel = true
is_event_kind kinds.Phase = true
is_event_kind kinds.Arrive = true
is_event_kind kinds.ArriveTimes = true
is_event_kind kinds.Acquire = true
is_event_kind kinds.AcquireShared = true
is_event_kind kinds.Release = true
is_event_kind _ = false

-- whether words of a kind have `on` behind them
abbrev pub waits : Kind → List (List ℕ) → Bool
waits kind ws = nat_le (length (kind_words kind)) (length ws) && has_on One (form_of kind) (drop (length (kind_words kind)) ws)

abbrev pub is_merge : List (List ℕ) → Bool
is_merge ws = same_word (slice_index_or ws 0 []) (codes "merge") || same_word (slice_index_or ws 0 []) (codes "mergei")

-- whether the words behind the sign have the form of a line that graphs have and flows have not
abbrev pub is_verb_unlike_flow : List (List ℕ) → Bool
is_verb_unlike_flow ws = is_merge ws || option_map_or (λ kind. is_event_kind kind || waits kind ws) (find (λ kind. is_of_form One ws (form_of kind)) KINDS) false

unfoldable pub is_unlike_flow : List (List ℕ) → Bool
is_unlike_flow ws = is_operation ws && is_verb_unlike_flow (drop 2 ws)

-- whether the words behind the sign have a verb that no flow has, and those of an operation line
abbrev pub is_event_verb : List (List ℕ) → Bool
is_event_verb ws = is_merge ws || option_map_or is_event_kind (find (λ kind. is_of_form One ws (form_of kind)) KINDS) false

abbrev pub has_event_verb : List (List ℕ) → Bool
has_event_verb ws = is_operation ws && is_event_verb (drop 2 ws)

-- the word by which a line has the form of one that no flow has: its verb, or `on`, behind which one event stands
abbrev pub other_word : List (List ℕ) → ℕ
other_word ws = cond (has_event_verb ws) 2 (length ws - 2)

-- the first line of another form among the first n lines of a text, from 0, or there is none
abbrev pub IsFirstUnlikeFlow : List ℕ → ℕ → Option ℕ → Type 0
IsFirstUnlikeFlow text n (Some line) = (line < n) × (is_unlike_flow (words_of_line text line) ≡ true) × ((i : ℕ) → i < line → is_unlike_flow (words_of_line text i) ≡ false)
IsFirstUnlikeFlow text n None = (i : ℕ) → i < n → is_unlike_flow (words_of_line text i) ≡ false

-- the first line is another
pub record IsHeaderFault (bytes : List ℕ) (number : ℕ) (reason : Why) : Type 0 where
  pub first : number ≡ 1
  pub reason_is : reason ≡ why.Header
  pub no_header : HasNoFlowHeader bytes

-- how many lines are judged by their words, of a text that is refused as a graph's in this line: not what follows the last newline or the closing line
abbrev pub judged_lines : ℕ → Why → ℕ
judged_lines number why.Missing = number - 1
judged_lines number why.Rest = number - 1
judged_lines number _ = number

-- the text is refused as a graph's, and of the lines that are judged none has words of a form that no flow has
pub record IsItemFault (text : List ℕ) (number : ℕ) (reason : Why) : Type 0 where
  pub refused : FirstFault text number reason
  pub none_other : IsFirstUnlikeFlow text (judged_lines number reason) None

-- the text is refused as a graph's, and of the lines that are judged this is the first whose words have a form that no flow has
pub record IsWordsFault (text : List ℕ) (number : ℕ) (reason : Why) : Type 0 where
  pub last : ℕ
  pub graph_reason : Why
  pub refused : FirstFault text last graph_reason
  pub line : ℕ
  pub other : IsFirstUnlikeFlow text (judged_lines last graph_reason) (Some line)
  pub number_is : number ≡ line + 1
  pub reason_is : reason ≡ why.Syntax

-- the text is that of a graph with a line that a flow has not
pub record IsFormFault (text : List ℕ) (number : ℕ) (reason : Why) : Type 0 where
  pub graph : GraphValue
  pub is_text : GraphText text graph
  pub line : ℕ
  pub other : IsFirstOther graph line
  pub number_is : number ≡ length graph.decls + line + 2
  pub reason_is : reason ≡ why.Syntax

-- the text was refused as a graph's
abbrev pub IsFaultOfText : List ℕ → FlowFault → Type 0
IsFaultOfText text (fault.Line number reason) = IsItemFault text number reason ⊎ IsWordsFault text number reason
IsFaultOfText text fault.NoMemory = Unit {0}

-- the same items as a graph's text has them, and why they are no flow's
pub record IsTextFault (bytes : List ℕ) (number : ℕ) (reason : Why) : Type 0 where
  pub rest : List ℕ
  pub begins : bytes ≡ flow_header ++ rest
  pub refused : IsFaultOfText (header One ++ rest) (fault.Line number reason) ⊎ IsFormFault (header One ++ rest) number reason

abbrev pub IsReadFault : List ℕ → FlowFault → Type 0
IsReadFault bytes (fault.Line number reason) = IsHeaderFault bytes number reason ⊎ IsTextFault bytes number reason
IsReadFault bytes fault.NoMemory = Unit {0}

-- what the text of a graph with the same items is read as
pub record IsRefusedSo (text : List ℕ) (number : ℕ) (reason : Why) (above : Option GraphValue) : Type 0 where
  pub refused : IsUnreadBy text number reason above
  pub none_other : IsFirstUnlikeFlow text (judged_lines number reason) None

abbrev pub IsTextReading : List ℕ → FlowReading → Type 0
IsTextReading text (readings.Flow f) = GraphText text f × AreFlowLines f
IsTextReading text readings.Header = ⊥
IsTextReading text (readings.Other number) = IsWordsFault text number why.Syntax ⊎ IsFormFault text number why.Syntax
IsTextReading text (readings.Refused u) = IsRefusedSo text u.number u.why u.above

-- what the text of this graph is read as
abbrev pub IsGraphReading : GraphValue → FlowReading → Type 0
IsGraphReading g (readings.Flow f) = (f ≡ g) × AreFlowLines f
IsGraphReading g (readings.Other number) = (line : ℕ) × IsFirstOther g line × (number ≡ length g.decls + line + 2)
IsGraphReading g _ = ⊥

-- what bytes are read as: another first line; or a flow, a line that no flow has, or what refuses the text of a graph with the same items
abbrev pub IsFlowReading : List ℕ → FlowReading → Type 0
IsFlowReading bytes readings.Header = HasNoFlowHeader bytes
IsFlowReading bytes (readings.Flow f) = FlowText bytes f
IsFlowReading bytes r = (rest : List ℕ) × (bytes ≡ flow_header ++ rest) × IsTextReading (header One ++ rest) r
