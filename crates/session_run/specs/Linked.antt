-- The graphs of a session with their links as lines: each link by the answer of the operation that it names.
use Rattle.std.specs.Prelude.{ℕ, List, [], ◌∷◌, ◌++◌, None, find, position}
use Rattle.std.specs.Option.{option_map_or}
use Rattle.std.specs.Str.{bytes_eq}
use Rattle.event_table.specs.declared.handle.Answer.{Answer}
use Rattle.event_table.specs.declared.handle.Answer.TheVariants.{Pending, Triggered, Poisoned}
use Rattle.graph_terms.specs.declared.verb.Line.{Line}
use Rattle.graph_terms.specs.declared.verb.Verb.TheVariants.{Cancel}
use Rattle.graph_terms.specs.Graph.{GraphValue}
use Rattle.graph_terms.specs.Fits.{with_line}
use Rattle.graph_meaning.specs.Evaluation.{eval_end}
use Rattle.graph_words.specs.Draft.{line_number}
use Rattle.realm_session.specs.Recorded.{answer_for}
use Rattle.session_text.specs.declared.entry.Link.{Link}
use Rattle.session_text.specs.declared.entry.Entry.{Entry}
use Rattle.session_text.specs.Fits.{trigger_line}

-- a graph with its links as lines, and its name
pub record LinkedGraph : Type 0 where
  pub name : List ℕ
  pub graph : GraphValue

-- what is answered in the evaluation of a graph for the operation of this name: that it is pending where there is none
abbrev pub answer_at : GraphValue → List ℕ → Answer
answer_at g op = option_map_or (λ i. answer_for (eval_end g i)) (position (λ (x : Line). bytes_eq x.name op) g.lines) Pending

-- the same for the operation that a link names, of one of these graphs
abbrev pub link_answer : List LinkedGraph → Link → Answer
link_answer before l = option_map_or (λ (x : LinkedGraph). answer_at x.graph l.op) (find (λ (x : LinkedGraph). bytes_eq x.name l.graph) before) Pending

-- the line of a link, taken as a cancel of its user line
abbrev pub cancel_line : GraphValue → Link → Line
cancel_line g l = record { name = l.line; verb = Cancel (line_number g l.user); on = [] }

-- a graph with a link at its end, by the answer of its operation: a trigger, a cancel, or nothing
abbrev pub with_answer : GraphValue → Link → Answer → GraphValue
with_answer g l Triggered = with_line g (trigger_line g l)
with_answer g l Poisoned = with_line g (cancel_line g l)
with_answer g l Pending = g

-- a graph with links at its end, by these graphs before it
abbrev pub with_links : List LinkedGraph → GraphValue → List Link → GraphValue
with_links before g [] = g
with_links before g (l ∷ ls) = with_links before (with_answer g l (link_answer before l)) ls

abbrev pub linked_entry : List LinkedGraph → Entry → LinkedGraph
linked_entry before e = record { name = e.name; graph = with_links before e.graph e.links }

-- the graphs of a session behind these
abbrev pub linked_after : List LinkedGraph → List Entry → List LinkedGraph
linked_after before [] = []
linked_after before (e ∷ es) = linked_entry before e ∷ linked_after (before ++ linked_entry before e ∷ []) es

abbrev pub linked : List Entry → List LinkedGraph
linked es = linked_after [] es
