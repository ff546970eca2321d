-- The text of an accepted graph: its need, why lines wait, and why lines are cancelled.
use Rattle.std.specs.Prelude.{◌≡◌, ℕ, ◌+◌, List, [], ◌∷◌, ◌++◌, Contains, codes, decimal, Option, Some, None}
use Rattle.graph_terms.specs.declared.verb.Edge.{Edge}
use Rattle.graph_terms.specs.declared.outcome.End.{End}
use Rattle.graph_terms.specs.declared.outcome.End.TheVariants.{Faulted}
use Rattle.graph_terms.specs.Graph.{GraphValue}
use Rattle.graph_terms.specs.Edges.{edges}
use Rattle.explanations.specs.Reaches.{reach_at, end_at}
use Rattle.explanations.specs.declared.reaches.Reach.{Reach}
use Rattle.explain_graph.specs.Causes.{cause_in}
use Rattle.explain_graph.specs.declared.ways.Way.{Way}
use Rattle.explain_text.specs.TextLines.{TextLines}
use Rattle.explain_text.specs.Shown.{shown}
use Rattle.explain_text.specs.Lines.{line_of, by_number, cause_word, waits_for, edges_text}

-- the edges by which lines are reached are edges of the graph
abbrev pub AreByEdges : GraphValue → List (Option Reach) → Type 0
AreByEdges g reaches = (i : ℕ) (m : Reach) (e : Edge) → reach_at reaches i ≡ Some m → m.by ≡ Some e → Contains (edges g) e

abbrev pub need_text : ℕ → List ℕ
need_text n = codes "accepted need " ++ (decimal n ++ codes "\n")

-- a line behind a colon, as it is told
abbrev pub and_line : GraphValue → TextLines → ℕ → List ℕ
and_line g ls i = codes ": " ++ (shown (line_of g ls i) ++ codes "\n")

-- the line at which the need is reached
abbrev pub need_line_text : GraphValue → TextLines → ℕ → Option ℕ → List ℕ
need_line_text g ls n None = []
need_line_text g ls n (Some k) = codes "need " ++ (decimal n ++ (codes ", reached at " ++ (by_number g ls k ++ and_line g ls k)))

-- why a line waits: it never comes, or the line that it waits for, and the one with which that begins
abbrev pub waiting_by : GraphValue → TextLines → ℕ → ℕ → Option Edge → List ℕ
waiting_by g ls i start None = by_number g ls i ++ (codes " never comes" ++ and_line g ls i)
waiting_by g ls i start (Some e) = waits_for g ls e ++ (codes ", and " ++ (by_number g ls start ++ (codes " never comes" ++ and_line g ls i)))

abbrev pub waiting_text : GraphValue → TextLines → ℕ → Option Reach → List ℕ
waiting_text g ls i None = []
waiting_text g ls i (Some m) = waiting_by g ls i m.start m.by

-- what a line does with which a fault begins
abbrev pub fault_word : End → List ℕ
fault_word Faulted = codes " faulted"
fault_word _ = codes " cancels"

-- why a line is cancelled: it begins a fault, or the line by which it is cancelled, and the one with which that begins
abbrev pub cancelled_by : GraphValue → TextLines → List End → ℕ → ℕ → Option Edge → List ℕ
cancelled_by g ls ends i start None = by_number g ls i ++ (fault_word (end_at ends i) ++ and_line g ls i)
cancelled_by g ls ends i start (Some e) =
    by_number g ls i ++ (codes " is cancelled by " ++ (by_number g ls e.from ++ (codes " (" ++ (cause_word (cause_in g e) ++ (codes "), and " ++ (by_number g ls start ++ (fault_word (end_at ends start) ++ and_line g ls i)))))))

abbrev pub cancelled_text : GraphValue → TextLines → List End → ℕ → Option Reach → List ℕ
cancelled_text g ls ends i None = []
cancelled_text g ls ends i (Some m) = cancelled_by g ls ends i m.start m.by

-- the texts of lines, of which the first has number n
abbrev pub each_text : (ℕ → Option Reach → List ℕ) → ℕ → List (Option Reach) → List ℕ
each_text f n [] = []
each_text f n (r ∷ rs) = f n r ++ each_text f (n + 1) rs

-- whole ways
abbrev pub way_text : GraphValue → TextLines → Way → List ℕ
way_text g ls w = codes "the way from " ++ (by_number g ls w.start ++ (codes " to " ++ (by_number g ls w.line ++ (codes ":\n" ++ edges_text g ls w.path.items))))

abbrev pub ways_text : GraphValue → TextLines → List Way → List ℕ
ways_text g ls [] = []
ways_text g ls (w ∷ ws) = way_text g ls w ++ ways_text g ls ws

-- the paths of ways are of edges of the graph
abbrev pub AreWayEdges : GraphValue → List Way → Type 0
AreWayEdges g ws = (w : Way) (e : Edge) → Contains ws w → Contains w.path.items e → Contains (edges g) e
