-- What stands in the code while a graph is made.
use Rattle.std.specs.Prelude.{◌≡◌, ℕ, ◌+◌, ◌<◌, ◌/◌, Bool, false, is_some, [], ◌++◌, length}
use Rattle.graph_terms.specs.Limits.{limits}
use Rattle.graph_terms.specs.Graph.{GraphValue}
use Rattle.task_flow.specs.Construction.{Made, is_contended, needed, wants_many, made_after, reservations, first_number, number_from, is_over}
use Rattle.flow_order.specs.Bits.{word_bit}
use Rattle.flow_order.specs.Rows.{IsKept}
use Rattle.task_flow.specs.declared.making.Making.{Making}
use Rattle.flow_order.specs.declared.rows.Rows.{Rows}
use Rattle.task_flow.specs.declared.sections.Sections.{Sections}

-- the lines of the graph, and those that are to be put into it
abbrev pub made_of : Making → Made
made_of m = record { format = m.graph.format; lines = m.graph.lines ++ m.row.items; places = m.places.items; merges = m.merges; first = m.first }

-- there are more lines than a graph of the format may have
abbrev pub IsPast : Made → Type 0
IsPast m = (limits m.format).lines < length m.lines

-- what stands after the first n lines of a flow
pub record IsMaking (f : GraphValue) (commute : Bool) (n : ℕ) (m : Making) : Type 0 where
  pub format : m.graph.format ≡ f.format
  pub decls : m.graph.decls ≡ f.decls ++ reservations f commute
  pub row : m.row.items ≡ []
  pub made : made_of m ≡ made_after f commute (number_from f) n
  pub named : m.named ≡ is_some (first_number f)
  pub alone : m.named ≡ false → length m.graph.lines ≡ n

-- what stands after line n of a flow: its row, the lines so far, and that the graph is within the limits
pub record IsNext (f : GraphValue) (commute : Bool) (n : ℕ) (rows : Rows) (m : Making) : Type 0 where
  pub rows_are : IsKept f commute rows
  pub count : length rows.rows.items ≡ n + 1
  pub making : IsMaking f commute (n + 1) m
  pub within : is_over f commute n ≡ false

-- the contended sums of a flow, and the columns of the reservations that they need, which are few enough
pub record AreSections (f : GraphValue) (s : Sections) : Type 0 where
  pub size : length s.contended ≡ (length f.lines + 63) / 64
  pub contended : (k : ℕ) → word_bit s.contended k ≡ is_contended f s.commute k
  pub columns : s.columns ≡ needed f s.commute (length f.lines)
  pub few : wants_many f s.commute (length f.lines) ≡ false
