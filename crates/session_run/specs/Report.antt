-- The report of a session: that of the evaluation of each graph with its links as lines, and then what the event of each line answers.
use Rattle.std.specs.Prelude.{ℕ, List, [], ◌∷◌, ◌++◌, length, flat_map, codes}
use Rattle.basics.specs.Lists.{numbers_below}
use Rattle.graph_terms.specs.Spelling.{spelled, line_name}
use Rattle.graph_meaning.specs.Evaluation.{answer_of, eval_end}
use Rattle.session_text.specs.Session.{graph_line}
use Rattle.session_run.specs.Linked.{LinkedGraph}
use Rattle.run_report.specs.Report.{answer_word, evaluation_report}

-- the name of a graph, and the report of its evaluation
abbrev pub graph_report : LinkedGraph → List ℕ
graph_report x = graph_line x.name ++ evaluation_report x.graph

-- the line of the event of a line of a graph: what it answers after the end of that line in the evaluation
abbrev pub event_text : LinkedGraph → ℕ → List ℕ
event_text x i = spelled (codes "event" ∷ x.name ∷ line_name x.graph i ∷ answer_word (answer_of (eval_end x.graph i)) ∷ [])

abbrev pub event_texts : LinkedGraph → List ℕ
event_texts x = flat_map (event_text x) (numbers_below (length x.graph.lines))

-- the report of a session of these graphs
abbrev pub session_report : List LinkedGraph → List ℕ
session_report gs = flat_map graph_report gs ++ (flat_map event_texts gs ++ spelled (codes "done" ∷ []))
