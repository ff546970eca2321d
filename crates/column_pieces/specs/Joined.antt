-- What a graph of pieces gives, put together.
use Rattle.std.specs.Prelude.{ℕ, List, length, map, slice_get}
use Rattle.std.specs.Option.{option_map_or}
use Rattle.basics.specs.Lists.{numbers_below}
use Rattle.index_spaces.specs.Space.{points}
use Rattle.index_spaces.specs.Column.{ColumnValue, cell_of}
use Rattle.graph_terms.specs.declared.outcome.Outcome.{Outcome}
use Rattle.graph_terms.specs.Graph.{GraphValue, columns, column_space}
use Rattle.column_pieces.specs.Cut.{Cut}

-- the cell of a column at a point: that of its piece, and 0 where no piece has it
abbrev pub joined_cell : List ColumnValue → Cut → ℕ → ℕ → ℕ
joined_cell pieces cut c p = option_map_or (λ x. cell_of x p) (slice_get pieces (cut.piece c p)) 0

-- a column of a graph with the cells of its pieces
abbrev pub joined_column : GraphValue → Cut → List ColumnValue → ℕ → ColumnValue
joined_column g cut pieces c = record { space = column_space g c; cells = map (joined_cell pieces cut c) (points (column_space g c)) }

-- an outcome with columns in place of pieces; ends, answers, phases and trace stay
abbrev pub joined : GraphValue → Cut → Outcome → Outcome
joined g cut o = record {
  ends = o.ends;
  answers = o.answers;
  phases = o.phases;
  columns = map (joined_column g cut o.columns) (numbers_below (length (columns g)));
  trace = o.trace;
}
