-- The columns of both kinds: those of instances, and behind them those of data.
use Rattle.std.specs.Prelude.{ℕ, List, [], ◌++◌, slice_get}
use Rattle.std.specs.Option.{option_map_or}
use Rattle.graph_terms.specs.Graph.{GraphValue, columns, data_columns, space_at}
use Rattle.graph_terms.specs.declared.decl.ColumnInfo.{ColumnInfo}

abbrev pub all_columns : GraphValue → List ColumnInfo
all_columns g = columns g ++ data_columns g

-- the intervals of the space of the column of this number among all
abbrev pub any_space : GraphValue → ℕ → List (ℕ × ℕ)
any_space g c = option_map_or (λ x. space_at g x.space) (slice_get (all_columns g) c) []
