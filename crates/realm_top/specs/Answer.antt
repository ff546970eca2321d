-- What a request is to answer, and what it is to write, by the bytes of its input where it has one.
use Rattle.std.specs.Prelude.{◌≡◌, ℕ, Bool, true, false, ◌||◌, List, [], Option, Some}
use Rattle.realm_io.specs.SinkState.{SinkState}
use Rattle.graph_terms.specs.Graph.{GraphValue}
use Rattle.graph_terms.specs.declared.limits.TheConstants.{MAX_TEXT}
use Rattle.command_line.specs.declared.request.Action.{Action}
use Rattle.command_line.specs.declared.request.Action.TheVariants.{Run, Check, Eval, Make, Audit, Timeline, Upgrade, Session}
use Rattle.command_line.specs.declared.request.Request.{Request}
use Rattle.graph_words.specs.Limits.{text_limit}
use Rattle.graph_gen.specs.MadeGraph.{made_graph}
use Rattle.graph_answers.specs.declared.status.Status.{Status}
use Rattle.graph_answers.specs.declared.status.Status.TheVariants.{Done, Usage, Unread, Unfit, ReadFault, WriteFault, NoMemory, Slots, TooLong, Unlawful}
use Rattle.graph_answers.specs.Delivered.{IsAnswered}
use Rattle.graph_answers.specs.AuditAnswer.{audit_limit, AuditAnswers, AuditAsks}
use Rattle.graph_answers.specs.UpgradeAnswer.{UpgradeAnswers, UpgradeAsks}
use Rattle.realm_top.specs.SessionAnswer.{SessionAnswers, SessionAsks}
use Rattle.graph_answers.specs.Answer.{runs, most_slots, made_says, Served, InputAnswers, EnoughSlots, TooFewSlots, InputAsks}

-- what an action is for: a graph is read and checked, such a graph with a trace behind it, a graph is read alone, the graphs of a session are read and checked, or one is made
pub data Purpose : Type 0 where
  Checking Auditing Upgrading InSession Making : Purpose

abbrev pub purpose : Action → Purpose
purpose Run = Checking
purpose Check = Checking
purpose Eval = Checking
purpose Timeline = Checking
purpose Audit = Auditing
purpose Upgrade = Upgrading
purpose Session = InSession
purpose Make = Making

abbrev pub is_checking : Purpose → Bool
is_checking Checking = true
is_checking _ = false

abbrev pub is_auditing : Purpose → Bool
is_auditing Auditing = true
is_auditing _ = false

abbrev pub is_upgrading : Purpose → Bool
is_upgrading Upgrading = true
is_upgrading _ = false

abbrev pub is_in_session : Purpose → Bool
is_in_session InSession = true
is_in_session _ = false

abbrev pub is_reading : Purpose → Bool
is_reading Making = false
is_reading _ = true

-- whether an action reads an input
abbrev pub reads : Action → Bool
reads action = is_reading (purpose action)

-- whether that is the text of a graph alone, which is checked
abbrev pub checks : Action → Bool
checks action = is_checking (purpose action)

-- whether it is the text of a graph with that of a trace behind it
abbrev pub audits : Action → Bool
audits action = is_auditing (purpose action)

-- whether it is the text of a graph alone, which is not checked
abbrev pub upgrades : Action → Bool
upgrades action = is_upgrading (purpose action)

-- whether it is the text of a session, whose graphs are checked
abbrev pub runs_session : Action → Bool
runs_session action = is_in_session (purpose action)

-- the most bytes that an input may have which begins as these do
abbrev pub limit_for : Purpose → List ℕ → ℕ
limit_for Auditing bytes = audit_limit bytes
limit_for InSession bytes = MAX_TEXT
limit_for _ bytes = text_limit bytes

abbrev pub input_limit : Action → List ℕ → ℕ
input_limit action bytes = limit_for (purpose action) bytes

-- whether an action's graph is checked, with a trace behind it or alone, or its graphs are
abbrev pub is_judging : Purpose → Bool
is_judging Checking = true
is_judging Auditing = true
is_judging InSession = true
is_judging _ = false

-- which statuses words that ask for this may end with, whatever the input and the streams are
abbrev pub may_end_for : Purpose → Bool → Status → Bool
may_end_for aim running Done = true
may_end_for aim running Usage = false
may_end_for aim running Unread = is_reading aim
may_end_for aim running Unfit = is_judging aim
may_end_for aim running ReadFault = is_reading aim
may_end_for aim running WriteFault = true
may_end_for aim running NoMemory = true
may_end_for aim running Slots = is_in_session aim || running
may_end_for aim running TooLong = is_reading aim
may_end_for aim running Unlawful = is_auditing aim

abbrev pub may_end : Request → Status → Bool
may_end request status = may_end_for (purpose request.action) (runs request.action request.text) status

-- the answer where a graph is made, and the text that goes with it: the graph's text is written where that is asked for, and nothing is checked or run then
abbrev pub MadeAnswers : Bool → Request → GraphValue → Status → List ℕ → Type 0
MadeAnswers true request g Done out = out ≡ made_says true g
MadeAnswers true request g _ out = ⊥
MadeAnswers false request g status out = Served request g status out

-- the bytes that an action works on: all that the source has left, or none where nothing is read
abbrev pub IsInputFor : Purpose → Option (List ℕ) → List ℕ → Type 0
IsInputFor Making left bytes = bytes ≡ []
IsInputFor _ left bytes = left ≡ Some bytes

abbrev pub IsInput : Action → Option (List ℕ) → List ℕ → Type 0
IsInput action left bytes = IsInputFor (purpose action) left bytes

-- the answer to a request with these bytes, and the text that goes with it
abbrev pub AnswersFor : Purpose → Request → List ℕ → Status → List ℕ → Type 0
AnswersFor Checking request bytes status out = InputAnswers request bytes status out
AnswersFor Auditing request bytes status out = AuditAnswers bytes status out
AnswersFor Upgrading request bytes status out = UpgradeAnswers request.to_three bytes status out
AnswersFor InSession request bytes status out = SessionAnswers (most_slots request.slots) bytes status out
AnswersFor Making request bytes status out = MadeAnswers request.text request (made_graph request.seed request.size) status out

abbrev pub Answers : Request → List ℕ → Status → List ℕ → Type 0
Answers request bytes status out = AnswersFor (purpose request.action) request bytes status out

-- the status that a graph which is made asks for
abbrev pub MadeAsks : Bool → Request → GraphValue → Status → Type 0
MadeAsks true request g Done = Unit {0}
MadeAsks false request g Done = EnoughSlots request g
MadeAsks false request g Slots = TooFewSlots request g
MadeAsks texted request g status = ⊥

-- the status that a request asks for with these bytes
abbrev pub AsksFor : Purpose → Request → List ℕ → Status → Type 0
AsksFor Checking request bytes status = InputAsks request bytes status
AsksFor Auditing request bytes status = AuditAsks bytes status
AsksFor Upgrading request bytes status = UpgradeAsks bytes status
AsksFor InSession request bytes status = SessionAsks (most_slots request.slots) bytes status
AsksFor Making request bytes status = MadeAsks request.text request (made_graph request.seed request.size) status

abbrev pub AsksStatus : Request → List ℕ → Status → Type 0
AsksStatus request bytes status = AsksFor (purpose request.action) request bytes status

-- an input of these bytes was answered, unless memory ran out
abbrev pub Answered : Request → List ℕ → SinkState → SinkState → Status → Type 0
Answered request bytes old new result = IsAnswered (Answers request bytes) old new result

-- a request was answered by its input, where the source tells it
abbrev pub AnsweredBy : Request → Option (List ℕ) → SinkState → SinkState → Status → Type 0
AnsweredBy request left old new result = (bytes : List ℕ) → IsInput request.action left bytes → Answered request bytes old new result
