-- What fits after the graphs and the links before it: the reasons that may refuse a line between the texts of graphs.
use Rattle.std.specs.Prelude.{◌≡◌, ℕ, ◌+◌, ◌≤◌, nat_lt, Bool, true, not, cond, ◌&&◌, ◌||◌, List, [], ◌∷◌, ◌++◌, length, sum_by, find, Option, Some, None}
use Rattle.std.specs.List.{list_any}
use Rattle.std.specs.Option.{option_map_or}
use Rattle.std.specs.Str.{bytes_eq}
use Rattle.graph_terms.specs.declared.limits.TheConstants.{MAX_TEXT, MAX_CELLS}
use Rattle.graph_terms.specs.declared.verb.Line.{Line}
use Rattle.graph_terms.specs.declared.verb.Verb.TheVariants.{Trigger}
use Rattle.graph_terms.specs.declared.why.Why.{Why}
use Rattle.graph_terms.specs.declared.why.Why.TheVariants as why
use Rattle.graph_terms.specs.declared.format.Format.{Format}
use Rattle.graph_terms.specs.declared.format.Format.TheVariants.{One}
use Rattle.graph_terms.specs.Graph.{GraphValue}
use Rattle.graph_terms.specs.Name.{is_name, is_name_in}
use Rattle.graph_terms.specs.Fits.{IsGraph, first_reason, is_used, with_line, line_fault, cell_count}
use Rattle.graph_words.specs.Draft.{line_number}
use Rattle.graph_reader.specs.FirstFault.{or_else}
use Rattle.word_meanings.specs.WordFaults.{is_line_name}
use Rattle.session_text.specs.declared.limits.TheConstants.{MAX_GRAPHS, MAX_SESSION_LINES}
use Rattle.session_text.specs.declared.entry.Link.{Link}
use Rattle.session_text.specs.declared.entry.Entry.{Entry}
use Rattle.session_text.specs.Session.{closing, HeadStands}

-- the line of a link, taken as a trigger of its user line
abbrev pub trigger_line : GraphValue → Link → Line
trigger_line g l = record { name = l.line; verb = Trigger (line_number g l.user); on = [] }

-- a graph with links at its end, each taken as a trigger
abbrev pub with_trigger : GraphValue → Link → GraphValue
with_trigger g l = with_line g (trigger_line g l)

abbrev pub with_triggers : GraphValue → List Link → GraphValue
with_triggers g [] = g
with_triggers g (l ∷ ls) = with_triggers (with_trigger g l) ls

-- a graph has an operation of this name, each of its links counted as one
abbrev pub has_op : Entry → List ℕ → Bool
has_op e w = is_line_name e.graph w || list_any (λ (l : Link). bytes_eq l.line w) e.links

-- a link names this graph, and an operation of it
abbrev pub names_op_of : Link → Entry → Bool
names_op_of l e = bytes_eq e.name l.graph && has_op e l.op

-- the graph that a link names is among these, and has its operation
abbrev pub names_op : List Entry → Link → Bool
names_op before l = list_any (names_op_of l) before

-- the format of the first of these graphs that has this name, and format 1 where none has it
abbrev pub format_of : List Entry → List ℕ → Format
format_of es name = option_map_or (λ (e : Entry). e.graph.format) (find (λ (e : Entry). bytes_eq e.name name) es) One

-- the names of a link are spelled as names: those of its line and its user line in the format of its graph, that of a graph as in formats 1 and 2,
-- and that of the operation in the format of the graph that is named
abbrev pub is_named : Format → Format → Link → Bool
is_named own named l = is_name_in own l.line && (is_name_in own l.user && (is_name l.graph && is_name_in named l.op))

-- operation lines and links, and cells, of all graphs
abbrev pub entry_lines : Entry → ℕ
entry_lines e = length e.graph.lines + length e.links

abbrev pub all_lines : List Entry → ℕ
all_lines es = sum_by entry_lines es

abbrev pub all_cells : List Entry → ℕ
all_cells es = sum_by (λ (e : Entry). cell_count e.graph) es

-- so many lines, or so many cells, are above their greatest value
abbrev pub is_above : ℕ → ℕ → Bool
is_above lines cells = nat_lt MAX_SESSION_LINES lines || nat_lt MAX_CELLS cells

-- a sum over all graphs is above its greatest value
abbrev pub is_large : List Entry → Bool
is_large es = is_above (all_lines es) (all_cells es)

-- the first reason that refuses a graph of this name after these
abbrev pub graph_reason : List Entry → List ℕ → Option Why
graph_reason es name = first_reason (
    (not (is_name name), why.Name)
    ∷ (list_any (λ (e : Entry). bytes_eq e.name name) es, why.Twice)
    ∷ (nat_lt MAX_GRAPHS (length es + 1), why.Limit)
    ∷ [])

-- the first reason that refuses the line of a link after this graph: that of the line which triggers its user line,
-- or that no line has the name of one
abbrev pub trigger_reason : GraphValue → Link → Option Why
trigger_reason g l = cond (is_line_name g l.user) (line_fault g (trigger_line g l))
    (first_reason ((is_used g l.line, why.Twice) ∷ (not (is_used g l.user), why.Unknown) ∷ (true, why.Kind) ∷ []))

-- a graph with one link more
abbrev pub with_link : Entry → Link → Entry
with_link e l = record { name = e.name; graph = e.graph; links = e.links ++ l ∷ [] }

-- the first reason that refuses a link of a graph after the links that it has, and after the graphs before it
abbrev pub link_reason : List Entry → Entry → Link → Option Why
link_reason before e l = or_else (first_reason ((not (is_named e.graph.format (format_of before l.graph) l), why.Name) ∷ (not (names_op before l), why.Unknown) ∷ []))
    (or_else (trigger_reason (with_triggers e.graph e.links) l) (cond (is_large (before ++ with_link e l ∷ [])) (Some why.Limit) None))

-- a graph of this name, without links
abbrev pub bare_entry : List ℕ → GraphValue → Entry
bare_entry name g = record { name = name; graph = g; links = [] }

-- each link fits after those before it
abbrev pub LinksFit : List Entry → Entry → List Link → Type 0
LinksFit before e [] = Unit {0}
LinksFit before e (l ∷ ls) = (link_reason before e l ≡ None) × LinksFit before (with_link e l) ls

-- a graph with its links fits after these
pub record EntryFits (before : List Entry) (e : Entry) : Type 0 where
  pub named : graph_reason before e.name ≡ None
  pub is_graph : IsGraph e.graph
  pub short : is_large (before ++ bare_entry e.name e.graph ∷ []) ≡ Bool.false
  pub links : LinksFit before (bare_entry e.name e.graph) e.links

-- each graph fits after those before it
abbrev pub EntriesFit : List Entry → List Entry → Type 0
EntriesFit before [] = Unit {0}
EntriesFit before (e ∷ es) = EntryFits before e × EntriesFit (before ++ e ∷ []) es

abbrev pub AreEntries : List Entry → Type 0
AreEntries es = EntriesFit [] es

-- the bytes are the text of the session
pub record SessionText (bytes : List ℕ) (es : List Entry) : Type 0 where
  pub is_text : HeadStands bytes es closing
  pub short : length bytes ≤ MAX_TEXT
  pub are_entries : AreEntries es
