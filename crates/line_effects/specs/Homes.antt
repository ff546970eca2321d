-- The columns of a graph by their numbers, each at home or out.
use Rattle.std.specs.Prelude.{List, length, map, Option, Some}
use Rattle.basics.specs.Lists.{numbers_below}
use Rattle.index_spaces.specs.Column.{ColumnValue}
use Rattle.graph_terms.specs.Graph.{GraphValue, columns}
use Rattle.graph_meaning.specs.Effect.{Cells}
use Rattle.graph_meaning.specs.Evaluation.{column_of}

-- all columns of a graph at home, with these cells
abbrev pub all_home : GraphValue → Cells → List (Option ColumnValue)
all_home g cells = map (λ c. Some (column_of g cells c)) (numbers_below (length (columns g)))
