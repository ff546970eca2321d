use Rattle.std.proofs.Common.{◌≡◌, take, false}
use Rattle.std.specs.List.{list_any}
use Rattle.graph_terms.specs.Names.{is_column_named}
use Rattle.graph_model.specs.Columns.{all_columns}
use Rattle.explain_top.proofs.columns.find_column.Given as goal

abbrev pub invariant-loop-column : goal.invariant-loop-column
invariant-loop-column l = list_any (is_column_named l.owner l.field) (take l.column (all_columns l.graph)) ≡ false
