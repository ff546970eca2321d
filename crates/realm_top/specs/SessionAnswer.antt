-- What `session` is to answer, and what it is to write. Its input is the text of a session: graphs, one after the other, with links to operations of earlier ones.
use Rattle.std.specs.Prelude.{◌≡◌, ℕ, ◌<◌, ◌≤◌, List, [], ◌∷◌, ◌++◌, length, Option, Some, None}
use Rattle.graph_terms.specs.declared.limits.TheConstants.{MAX_TEXT}
use Rattle.graph_terms.specs.declared.why.Why.{Why}
use Rattle.graph_meaning.specs.Rules.{Accepted}
use Rattle.session_text.specs.declared.entry.Entry.{Entry}
use Rattle.session_text.specs.Fits.{SessionText}
use Rattle.session_text.specs.FirstFault.{SessionFault}
use Rattle.session_run.specs.declared.session.UnfitGraph.{UnfitGraph}
use Rattle.session_run.specs.declared.session.RunFault.TheVariants as fault
use Rattle.session_run.specs.Linked.{LinkedGraph, linked}
use Rattle.session_run.specs.Running.{slots_needed}
use Rattle.session_run.specs.Session.{CanRun, Stops}
use Rattle.session_run.specs.Report.{session_report}
use Rattle.realm_io.specs.SinkState.{SinkState}
use Rattle.graph_answers.specs.declared.status.Status.{Status}
use Rattle.graph_answers.specs.declared.status.Status.TheVariants.{Done, Unread, Unfit, Slots, TooLong}
use Rattle.program_io.specs.Delivered.{Delivered, too_long_text}
use Rattle.graph_answers.specs.Texts.{unread_text, slots_text}
use Rattle.realm_top.specs.SessionTexts.{unfit_in_text}

-- the bytes are the text of no session: the line of this number is the first that is refused, for this reason
pub record IsNoSession (bytes out : List ℕ) : Type 0 where
  pub number : ℕ
  pub why : Why
  pub fault : SessionFault bytes number why
  pub says : out ≡ unread_text number why

-- and the status that goes with it
abbrev pub RefusesSession : List ℕ → Status → List ℕ → Type 0
RefusesSession bytes Unread out = IsNoSession bytes out
RefusesSession bytes _ out = ⊥

-- the first graph that cannot run breaks a rule
pub record IsUnfitIn (slots : ℕ) (gs : List LinkedGraph) (out : List ℕ) : Type 0 where
  pub unfit : UnfitGraph
  pub first : Stops slots gs (fault.Unfit unfit)
  pub says : unfit_in_text unfit ≡ Some out

-- or it is accepted, and the events of the lines so far that wait need more slots
pub record IsShortIn (slots : ℕ) (gs : List LinkedGraph) (out : List ℕ) : Type 0 where
  pub need : ℕ
  pub first : Stops slots gs (fault.Slots need)
  pub says : out ≡ slots_text need

-- what becomes of the graphs of a session, each with its links as lines, and the text that goes with it
abbrev pub GraphsAnswer : ℕ → List LinkedGraph → Status → List ℕ → Type 0
GraphsAnswer slots gs Done out = CanRun slots gs × (out ≡ session_report gs)
GraphsAnswer slots gs Unfit out = IsUnfitIn slots gs out
GraphsAnswer slots gs Slots out = IsShortIn slots gs out
GraphsAnswer slots gs _ out = ⊥

-- the answer to an input of these bytes, and the text that goes with it
abbrev pub SessionAnswers : ℕ → List ℕ → Status → List ℕ → Type 0
SessionAnswers slots bytes Unread out = (length bytes ≤ MAX_TEXT) × IsNoSession bytes out
SessionAnswers slots bytes TooLong out = (MAX_TEXT < length bytes) × (out ≡ too_long_text)
SessionAnswers slots bytes status out = (es : List Entry) × SessionText bytes es × GraphsAnswer slots (linked es) status out

-- a graph behind others that can run
pub record RunsUpTo (slots : ℕ) (gs : List LinkedGraph) : Type 0 where
  pub before : List LinkedGraph
  pub graph : LinkedGraph
  pub behind : List LinkedGraph
  pub split : gs ≡ before ++ graph ∷ behind
  pub ran : CanRun slots before

-- the status that graphs ask for: of one behind others that can run it is not accepted, or it is and needs more slots with those
abbrev pub GraphsAsk : ℕ → List LinkedGraph → Status → Type 0
GraphsAsk slots gs Done = CanRun slots gs
GraphsAsk slots gs Unfit = (at : RunsUpTo slots gs) × (Accepted at.graph.graph → ⊥)
GraphsAsk slots gs Slots = (at : RunsUpTo slots gs) × Accepted at.graph.graph × (slots < slots_needed (at.before ++ at.graph ∷ []))
GraphsAsk slots gs _ = ⊥

-- the status that an input of these bytes asks for
abbrev pub SessionAsks : ℕ → List ℕ → Status → Type 0
SessionAsks slots bytes Unread = (length bytes ≤ MAX_TEXT) × ((es : List Entry) → SessionText bytes es → ⊥)
SessionAsks slots bytes TooLong = MAX_TEXT < length bytes
SessionAsks slots bytes status = (es : List Entry) × SessionText bytes es × GraphsAsk slots (linked es) status

-- a session was done with these bytes: they are the one text of a session, its graphs with their links as lines are accepted, their events have slots enough,
-- and the report of the session was written and flushed
pub record IsSessionDone (slots : ℕ) (bytes : List ℕ) (old new : SinkState) : Type 0 where
  pub entries : List Entry
  pub text : SessionText bytes entries
  pub ran : CanRun slots (linked entries)
  pub delivered : Delivered old new (session_report (linked entries))
