-- Lines of a graph's text, with their numbers, and why they wait.
use Rattle.std.specs.Prelude.{ℕ, ◌+◌, ◌-◌, nat_lt, nat_le, Bool, cond, not, ◌&&◌, List, [], ◌∷◌, ◌++◌, length, take, drop, codes, decimal}
use Rattle.std.specs.List.{slice_index_or}
use Rattle.graph_terms.specs.declared.verb.Edge.{Edge}
use Rattle.graph_terms.specs.Graph.{GraphValue}
use Rattle.graph_terms.specs.Spelling.{line_name}
use Rattle.explain_graph.specs.declared.causes.Cause.{Cause}
use Rattle.explain_graph.specs.declared.causes.Cause.TheVariants.{On, Merge, MergeIgnore, Trigger, Cancel, Arrival, PhaseOrder}
use Rattle.explain_graph.specs.Causes.{cause_in}
use Rattle.graph_comments.specs.Comments.{comments_above}
use Rattle.graph_words.specs.Text.{has_comments}
use Rattle.explain_text.specs.TextLines.{TextLines}
use Rattle.explain_text.specs.Shown.{shown, shown_for, more_text}
use Rattle.explain_text.specs.declared.bounds.TheConstants.{MAX_PATH, HALF_PATH}

-- the number among all lines of a line that has this number without comments, both counted from 1
abbrev pub whole_number : TextLines → ℕ → ℕ
whole_number ls k = cond (has_comments ls.bytes) (k + cond (nat_le k 1) 0 (comments_above (k - 2) (drop 1 ls.lines))) k

-- the number of an operation's line in the text, from 1: the first line names the format, the declarations come before the operations, and comments may stand between
abbrev pub line_number : GraphValue → TextLines → ℕ → ℕ
line_number g ls i = whole_number ls (i + length g.decls + 2)

-- the line of the text
abbrev pub line_of : GraphValue → TextLines → ℕ → List ℕ
line_of g ls i = slice_index_or ls.lines (line_number g ls i - 1) []

abbrev pub by_number : GraphValue → TextLines → ℕ → List ℕ
by_number g ls i = codes "line " ++ decimal (line_number g ls i)

-- a line with its number
abbrev pub numbered : GraphValue → TextLines → ℕ → List ℕ
numbered g ls i = by_number g ls i ++ (codes ": " ++ (shown (line_of g ls i) ++ codes "\n"))

abbrev pub cause_word : Cause → List ℕ
cause_word On = codes "on"
cause_word Merge = codes "merge"
cause_word MergeIgnore = codes "mergei"
cause_word Trigger = codes "trigger"
cause_word Cancel = codes "cancel"
cause_word Arrival = codes "arrival"
cause_word PhaseOrder = codes "phase order"

-- for which line another waits, and why
abbrev pub waits_for : GraphValue → TextLines → Edge → List ℕ
waits_for g ls e = by_number g ls e.to ++ (codes " waits for " ++ (by_number g ls e.from ++ (codes " (" ++ (cause_word (cause_in g e) ++ codes ")"))))

-- with the line that waits, as it is told for the name of the other
abbrev pub edge_text : GraphValue → TextLines → Edge → List ℕ
edge_text g ls e = waits_for g ls e ++ (codes ": " ++ (shown_for (line_name g e.from) (line_of g ls e.to) ++ codes "\n"))

-- the same of edges, one after the other
abbrev pub all_edges_text : GraphValue → TextLines → List Edge → List ℕ
all_edges_text g ls [] = []
all_edges_text g ls (e ∷ es) = edge_text g ls e ++ all_edges_text g ls es

-- of a path: of a long one both ends, and how many edges lie between
abbrev pub ends_text : GraphValue → TextLines → List Edge → List ℕ
ends_text g ls es = all_edges_text g ls (take HALF_PATH es) ++ (more_text (length es - MAX_PATH) ++ all_edges_text g ls (drop (length es - HALF_PATH) es))

-- whether a path or a list of more than so many is cut
abbrev pub is_cut : TextLines → ℕ → ℕ → Bool
is_cut ls most count = not ls.all && nat_lt most count

abbrev pub edges_text : GraphValue → TextLines → List Edge → List ℕ
edges_text g ls es = cond (is_cut ls MAX_PATH (length es)) (ends_text g ls es) (all_edges_text g ls es)
