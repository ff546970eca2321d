-- What is to be answered, and written, for the text of a graph alone that is checked, and for an accepted graph.
use Rattle.std.specs.Prelude.{◌≡◌, ℕ, ◌+◌, ◌-◌, ◌*◌, ◌<◌, ◌≤◌, ◌⊎◌, nat_lt, max, Bool, true, false, not, List, [], ◌++◌, length, Option, Some, None, ◌↔◌}
use Rattle.realm_io.specs.SinkState.{SinkState}
use Rattle.graph_terms.specs.Graph.{GraphValue}
use Rattle.graph_terms.specs.declared.outcome.End.TheVariants.{Cancelled, Waiting}
use Rattle.graph_meaning.specs.Path.{Reached}
use Rattle.graph_meaning.specs.Rules.{Accepted}
use Rattle.graph_meaning.specs.Need.{IsNeed}
use Rattle.graph_meaning.specs.Trace.{IsLawful}
use Rattle.graph_meaning.specs.Evaluation.{eval_end, outcome, order, Unbroken}
use Rattle.command_line.specs.declared.request.TheConstants.{MAX_SLOTS}
use Rattle.command_line.specs.declared.request.Action.{Action}
use Rattle.command_line.specs.declared.request.Action.TheVariants.{Run, Check, Eval, Make, Audit, Timeline, Upgrade, Session}
use Rattle.command_line.specs.declared.request.Request.{Request}
use Rattle.realm_audit.specs.Text.{trace_text}
use Rattle.realm_timeline.specs.Timeline.{TimelineValue}
use Rattle.realm_timeline.specs.declared.slot.Slot.{Slot}
use Rattle.realm_timeline.specs.Plan.{IsPlan, IsValid, IsGreedy, plan_length, total_cost}
use Rattle.realm_timeline.specs.Columns.{AreApart, IsGreedyByColumns}
use Rattle.realm_timeline.specs.Chains.{IsCritical, chain_cost}
use Rattle.column_pieces.specs.Pieces.{Unions, ArePieces, graph_of_pieces}
use Rattle.column_pieces.specs.declared.pieces.Piece.{Piece}
use Rattle.piece_graphs.specs.Uncut.{IsUncut}
use Rattle.realm_timeline.specs.Laws.{AcquiresNone}
use Rattle.realm_timeline.specs.Text.{timeline_text}
use Rattle.graph_words.specs.Limits.{text_limit}
use Rattle.graph_words.specs.Text.{GraphText, text}
use Rattle.graph_answers.specs.declared.status.Status.{Status}
use Rattle.graph_answers.specs.declared.status.Status.TheVariants.{Done, Unread, Unfit, Slots, TooLong}
use Rattle.program_io.specs.Delivered.{Delivered, too_long_text}
use Rattle.graph_answers.specs.Delivered.{IsAnswered}
use Rattle.graph_answers.specs.Refused.{IsRefused, IsUnfit}
use Rattle.run_report.specs.Report.{evaluation_report}
use Rattle.graph_answers.specs.Texts.{made_text, accepted_text, slots_text}

-- how lines end in the evaluation, by paths: a line waits exactly where one that never comes reaches it, itself included, and a line is cancelled exactly where an unbroken path from a fault reaches it
pub record EndsByPaths (g : GraphValue) : Type 0 where
  pub waiting : (i : ℕ) → i < length g.lines → (eval_end g i ≡ Waiting) ↔ Reached g i
  pub cancelled : (i : ℕ) → (eval_end g i ≡ Cancelled) ↔ Unbroken g i

-- the text of a trace, where it is asked for
abbrev pub trace_part : Bool → GraphValue → List ℕ → List ℕ
trace_part true g trace = trace_text g trace
trace_part false g trace = []

-- the report of the one-thread evaluation, followed by this trace where it is asked for
abbrev pub report_with : Bool → GraphValue → List ℕ → List ℕ
report_with traced g trace = evaluation_report g ++ trace_part traced g trace

-- the same with the order of the evaluation
abbrev pub evaluation_text : Bool → GraphValue → List ℕ
evaluation_text traced g = report_with traced g (order g)

-- the same with some lawful trace
abbrev pub IsRunText : Bool → GraphValue → List ℕ → Type 0
IsRunText traced g out = (trace : List ℕ) × IsLawful g trace × (out ≡ report_with traced g trace)

-- whether one graph is run: by `run`, and by `make` where the graph's text is not asked for
abbrev pub runs : Action → Bool → Bool
runs Run texted = true
runs Make texted = not texted
runs _ texted = false

-- whether an action reads a graph alone, checks it, and answers for it without a run
abbrev pub runs_nothing : Action → Bool
runs_nothing Check = true
runs_nothing Eval = true
runs_nothing Timeline = true
runs_nothing _ = false

-- how many slots the events of a run, or of all graphs of a session, may have: as many as are given, or 8,192
abbrev pub most_slots : Option ℕ → ℕ
most_slots None = MAX_SLOTS
most_slots (Some slots) = slots

-- a run that has fewer slots than the need
abbrev pub is_short_by : Bool → Option ℕ → ℕ → Bool
is_short_by true slots need = nat_lt (most_slots slots) need
is_short_by false slots need = false

abbrev pub is_short : Request → ℕ → Bool
is_short request need = is_short_by (runs request.action request.text) request.slots need

-- what is written of a graph that was made: its text where that is asked for, else the line that sums up its evaluation
abbrev pub made_says : Bool → GraphValue → List ℕ
made_says true g = text g
made_says false g = made_text g (outcome g (order g))

-- what is written of a run with this trace: for `make` the line that sums it up, else its report, followed by the trace where it is asked for
abbrev pub run_text : Action → Bool → GraphValue → List ℕ → List ℕ
run_text Make traced g trace = made_says false g
run_text _ traced g trace = report_with traced g trace

-- the text is that of a timeline on so many processors: of a plan that is valid and greedy, with its length, and of the critical chain with its cost.
-- Each valid plan is at least as long as that chain costs, and without reservations this one is not much longer
pub record IsTimelineText (processors : ℕ) (g : GraphValue) (out : List ℕ) : Type 0 where
  pub timeline : TimelineValue
  pub is_plan : IsPlan g processors timeline.plan
  pub valid : IsValid g timeline.plan
  pub greedy : IsGreedy g processors timeline.plan
  pub length_is : timeline.span ≡ plan_length timeline.plan
  pub critical : IsCritical g timeline.critical
  pub cost_is : timeline.critical_cost ≡ chain_cost g timeline.critical
  pub at_least : (n : ℕ) (other : List (Option Slot)) → IsPlan g n other → IsValid g other → timeline.critical_cost ≤ plan_length other
  pub at_most : AcquiresNone g → processors * timeline.span ≤ total_cost g timeline.plan + (processors - 1) * timeline.critical_cost
  pub says : out ≡ timeline_text g timeline

-- the same of a plan in which a line that changes a column runs beside no other that uses it
pub record IsColumnsText (processors : ℕ) (g : GraphValue) (out : List ℕ) : Type 0 where
  pub timeline : TimelineValue
  pub is_plan : IsPlan g processors timeline.plan
  pub valid : IsValid g timeline.plan
  pub apart : AreApart g timeline.plan
  pub greedy : IsGreedyByColumns g processors timeline.plan
  pub length_is : timeline.span ≡ plan_length timeline.plan
  pub critical : IsCritical g timeline.critical
  pub cost_is : timeline.critical_cost ≡ chain_cost g timeline.critical
  pub says : out ≡ timeline_text g timeline

-- the graph that is run with two workers or more: that of the pieces of columns, or the graph itself where these are not cut
abbrev pub IsInPieces : GraphValue → GraphValue → Type 0
IsInPieces g h = ((unions : Unions) × (pieces : List Piece) × ArePieces g unions pieces × (h ≡ graph_of_pieces g unions pieces)) ⊎ (IsUncut g × (h ≡ g))

-- and such a timeline of it
abbrev pub IsPieceText : ℕ → GraphValue → List ℕ → Type 0
IsPieceText processors g out = (h : GraphValue) × IsInPieces g h × IsColumnsText processors h out

-- how many processors a timeline has: as many as there are workers, but one at least
abbrev pub processors_for : Request → ℕ
processors_for request = max request.workers 1

-- the text of the timeline that is asked for
abbrev pub PlanTextBy : Bool → ℕ → GraphValue → List ℕ → Type 0
PlanTextBy true processors g out = IsPieceText processors g out
PlanTextBy false processors g out = IsTimelineText processors g out

abbrev pub IsPlanText : Request → GraphValue → List ℕ → Type 0
IsPlanText request g out = PlanTextBy request.columns (processors_for request) g out

-- what an action writes of an accepted graph with this need; `audit`, `upgrade` and `session` have answers of their own
abbrev pub Says : Action → Request → GraphValue → ℕ → List ℕ → Type 0
Says Run request g need out = IsRunText request.trace g out
Says Eval request g need out = out ≡ evaluation_text request.trace g
Says Check request g need out = out ≡ accepted_text need
Says Timeline request g need out = IsPlanText request g out
Says Make request g need out = out ≡ made_says false g
Says Audit request g need out = ⊥
Says Upgrade request g need out = ⊥
Says Session request g need out = ⊥

-- what becomes of an accepted graph, and the text that goes with it
abbrev pub Served : Request → GraphValue → Status → List ℕ → Type 0
Served request g Done out = (need : ℕ) × IsNeed g need × (is_short request need ≡ false) × Says request.action request g need out
Served request g Slots out = (need : ℕ) × IsNeed g need × (is_short request need ≡ true) × (out ≡ slots_text need)
Served request g _ out = ⊥

-- what becomes of a graph that was read, and the text that goes with it
abbrev pub Judged : Request → GraphValue → Status → List ℕ → Type 0
Judged request g Unfit out = IsUnfit g out
Judged request g status out = Accepted g × Served request g status out

-- the answer to bytes that are to be the text of a graph alone, and the text that goes with it
abbrev pub TextAnswers : Request → List ℕ → Status → List ℕ → Type 0
TextAnswers request bytes Unread out = IsRefused bytes out
TextAnswers request bytes status out = (g : GraphValue) × GraphText bytes g × Judged request g status out

-- the answer to an input of these bytes, which may be too long
abbrev pub InputAnswers : Request → List ℕ → Status → List ℕ → Type 0
InputAnswers request bytes TooLong out = (text_limit bytes < length bytes) × (out ≡ too_long_text)
InputAnswers request bytes status out = (length bytes ≤ text_limit bytes) × TextAnswers request bytes status out

-- an accepted graph has slots enough, or too few. A graph has one need at most
abbrev pub EnoughSlots : Request → GraphValue → Type 0
EnoughSlots request g = (need : ℕ) → IsNeed g need → is_short request need ≡ false

abbrev pub TooFewSlots : Request → GraphValue → Type 0
TooFewSlots request g = (need : ℕ) × IsNeed g need × (is_short request need ≡ true)

-- the status that such bytes ask for
abbrev pub TextAsks : Request → List ℕ → Status → Type 0
TextAsks request bytes Done = (g : GraphValue) × GraphText bytes g × Accepted g × EnoughSlots request g
TextAsks request bytes Slots = (g : GraphValue) × GraphText bytes g × Accepted g × TooFewSlots request g
TextAsks request bytes Unfit = (g : GraphValue) × GraphText bytes g × (Accepted g → ⊥)
TextAsks request bytes Unread = (g : GraphValue) → GraphText bytes g → ⊥
TextAsks request bytes status = ⊥

-- the status that an input of these bytes asks for
abbrev pub InputAsks : Request → List ℕ → Status → Type 0
InputAsks request bytes TooLong = text_limit bytes < length bytes
InputAsks request bytes status = (length bytes ≤ text_limit bytes) × TextAsks request bytes status

-- an action that reads a graph alone was done with these bytes: they are the one text of an accepted graph, a run had enough slots, and the text of the action was written and flushed
pub record IsDone (request : Request) (bytes : List ℕ) (old new : SinkState) : Type 0 where
  pub graph : GraphValue
  pub text : GraphText bytes graph
  pub accepted : Accepted graph
  pub need : ℕ
  pub is_need : IsNeed graph need
  pub enough : is_short request need ≡ false
  pub out : List ℕ
  pub says : Says request.action request graph need out
  pub delivered : Delivered old new out

-- an accepted graph was answered, unless memory ran out
abbrev pub Serves : Request → GraphValue → SinkState → SinkState → Status → Type 0
Serves request g old new result = IsAnswered (Served request g) old new result

-- a graph that was read was answered, unless memory ran out
abbrev pub Settled : Request → GraphValue → SinkState → SinkState → Status → Type 0
Settled request g old new result = IsAnswered (Judged request g) old new result
