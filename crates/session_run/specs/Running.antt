-- The graphs of a session that were run, and what was recorded of them.
use Rattle.std.specs.Prelude.{◌≡◌, ℕ, ◌+◌, ◌≤◌, List, [], ◌∷◌, ◌++◌, length, map, Contains, Option, position, bytes_eq}
use Rattle.basics.specs.Lists.{numbers_below}
use Rattle.basics.specs.Sums.{total}
use Rattle.event_table.specs.declared.handle.Handle.{Handle}
use Rattle.shared_events.specs.declared.tokens.Seat.{Seat}
use Rattle.graph_terms.specs.declared.outcome.End.{End}
use Rattle.graph_terms.specs.declared.outcome.Outcome.{Outcome}
use Rattle.graph_terms.specs.declared.verb.Line.{Line as GraphLine}
use Rattle.graph_terms.specs.Graph.{GraphValue}
use Rattle.graph_meaning.specs.Evaluation.{eval_end, outcome}
use Rattle.realm_session.specs.declared.line.Line.{Line}
use Rattle.realm_session.specs.Recorded.{RecordedGraphs, IsRecorded, end_in, handle_in, waits}
use Rattle.realm_session.specs.Sessions.{recorded_by, IsRecorderOf, Tells}
use Rattle.session_text.specs.declared.entry.Link.{Link}
use Rattle.session_text.specs.declared.entry.Entry.{Entry}
use Rattle.session_text.specs.declared.limits.TheConstants.{MAX_GRAPHS}
use Rattle.session_text.specs.Fits.{bare_entry, LinksFit}
use Rattle.session_run.specs.declared.running.RanGraph.{RanGraph}
use Rattle.session_run.specs.declared.running.Running.{Running}
use Rattle.session_run.specs.Linked.{LinkedGraph}

-- how the lines of a graph end in its evaluation
abbrev pub ends_of : GraphValue → List End
ends_of g = map (eval_end g) (numbers_below (length g.lines))

-- the operation lines of graphs, and the slots that their events need: one, and one for each line that waits
abbrev pub line_total : List LinkedGraph → ℕ
line_total gs = total (λ (x : LinkedGraph). length x.graph.lines) gs

abbrev pub slots_needed : List LinkedGraph → ℕ
slots_needed gs = 1 + total (λ (x : LinkedGraph). total waits (ends_of x.graph)) gs

-- a graph that was run
abbrev pub linked_of : RanGraph → LinkedGraph
linked_of x = record { name = x.name; graph = x.checked.graph }

abbrev pub ran_by : Running → List LinkedGraph
ran_by r = map linked_of r.graphs.items

abbrev pub slots_of : Running → ℕ
slots_of r = (recorded_by r.recorder).slots

-- the place of the graph that a link names, and the line of a graph that it names
abbrev pub graph_place : List RanGraph → Link → Option ℕ
graph_place gs l = position (λ (x : RanGraph). bytes_eq x.name l.graph) gs

abbrev pub op_place : GraphValue → Link → Option ℕ
op_place g l = position (λ (x : GraphLine). bytes_eq x.name l.op) g.lines

-- this was given by a run of the graph
abbrev pub IsOutcome : GraphValue → Outcome → Type 0
IsOutcome g o = o ≡ outcome g o.trace

-- the graphs were recorded in order, and no others
pub record IsRunning (r : Running) : Type 0 where
  pub recorder : IsRecorderOf r.session r.recorder
  pub few : length r.graphs.items ≤ MAX_GRAPHS
  pub ends : map (map end_in) (recorded_by r.recorder).graphs ≡ map (λ (x : RanGraph). ends_of x.checked.graph) r.graphs.items
  pub handles : map (map handle_in) (recorded_by r.recorder).graphs ≡ map (λ (x : RanGraph). x.handles) r.graphs.items
  pub outcomes : (x : RanGraph) → Contains r.graphs.items x → IsOutcome x.checked.graph x.outcome

-- a graph whose lines ended so was recorded, with these handles
pub record Entered (r after : RecordedGraphs) (ends : List End) (hs : List Handle) : Type 0 where
  pub lines : List Line
  pub added : after.graphs ≡ r.graphs ++ lines ∷ []
  pub ended : map end_in lines ≡ ends
  pub handles : hs ≡ map handle_in lines
  pub slots : after.slots ≡ r.slots

-- the seat tells of each line that was recorded
abbrev pub TellsAll : RecordedGraphs → Seat → Type 0
TellsAll r s = (x : Line) → IsRecorded r x → Tells s x

-- the links fit after a graph, each after those before it
abbrev pub CanLink : GraphValue → List Link → Type 0
CanLink g ls = (before : List Entry) × (name : List ℕ) × LinksFit before (bare_entry name g) ls
