-- Running the graphs of a session in order, until all have run or one is refused.
use Rattle.std.specs.Prelude.{◌≡◌, ◌≢◌, ℕ, ◌+◌, ◌<◌, ◌≤◌, List, [], ◌∷◌, ◌++◌, length, Contains, Result, IfOk}
use Rattle.graph_meaning.specs.Rules.{Accepted}
use Rattle.checked_graph.specs.Checked.{CheckedValue}
use Rattle.graph_terms.specs.declared.outcome.Outcome.{Outcome}
use Rattle.index_spaces.specs.declared.NoMemory.{NoMemory as WantOfMemory}
use Rattle.race_check.specs.declared.checked.CheckRefusal.TheVariants as check
use Rattle.race_check.specs.Refusal.{IsRefusal, NamesLines}
use Rattle.session_text.specs.declared.entry.Entry.{Entry}
use Rattle.session_text.specs.declared.limits.TheConstants.{MAX_GRAPHS, MAX_SESSION_LINES}
use Rattle.session_text.specs.Fits.{all_lines, EntriesFit}
use Rattle.session_run.specs.declared.session.RunFault.{RunFault}
use Rattle.session_run.specs.declared.session.RunFault.TheVariants.{Unfit, Slots, NoMemory}
use Rattle.session_run.specs.Linked.{LinkedGraph}
use Rattle.session_run.specs.Running.{slots_needed, line_total, CanLink, IsOutcome}

-- these graphs are accepted, and their events have slots enough
pub record CanRun (slots : ℕ) (gs : List LinkedGraph) : Type 0 where
  pub accepted : (x : LinkedGraph) → Contains gs x → Accepted x.graph
  pub enough : slots_needed gs ≤ slots

-- why a graph is refused behind these; want of memory says nothing
abbrev pub Refuses : ℕ → List LinkedGraph → LinkedGraph → RunFault → Type 0
Refuses slots before x (Unfit u) = (u.name ≡ x.name) × (u.graph ≡ x.graph) × (u.why ≢ check.NoMemory) × IsRefusal x.graph u.why × NamesLines x.graph u.why
Refuses slots before x (Slots n) = Accepted x.graph × (slots < n) × (n ≡ slots_needed (before ++ x ∷ []))
Refuses slots before x NoMemory = Unit {0}

-- a graph is the first that is refused
pub record Stops (slots : ℕ) (gs : List LinkedGraph) (fault : RunFault) : Type 0 where
  pub before : List LinkedGraph
  pub graph : LinkedGraph
  pub behind : List LinkedGraph
  pub split : gs ≡ before ++ graph ∷ behind
  pub ran : CanRun slots before
  pub refused : Refuses slots before graph fault

-- the same, or memory ran out
abbrev pub StopsOr : ℕ → List LinkedGraph → RunFault → Type 0
StopsOr slots gs NoMemory = Unit {0}
StopsOr slots gs fault = Stops slots gs fault

-- what runs accepted graphs gives outcomes of them, or no memory
abbrev pub GivesOutcomes : (CheckedValue → Result Outcome WantOfMemory → Type 0) → Type 0
GivesOutcomes Returns = (c : CheckedValue) (r : Result Outcome WantOfMemory) → Returns c r → IfOk r (λ o. IsOutcome c.graph o)

-- a graph may be run behind these
pub record CanRunNext (before : List LinkedGraph) (e : Entry) : Type 0 where
  pub links : CanLink e.graph e.links
  pub graphs : length before < MAX_GRAPHS
  pub few : line_total before + (length e.graph.lines + length e.links) ≤ MAX_SESSION_LINES

-- the graphs that are to be run behind these
pub record AreNext (before : List LinkedGraph) (es : List Entry) : Type 0 where
  pub entries : List Entry
  pub fit : EntriesFit entries es
  pub count : length before ≡ length entries
  pub lines : line_total before ≤ all_lines entries
