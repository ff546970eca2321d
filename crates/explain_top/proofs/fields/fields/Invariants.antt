use Rattle.std.proofs.Common.{◌≡◌, take}
use Rattle.std.specs.Prelude.{flat_map}
use Rattle.graph_model.specs.Columns.{all_columns}
use Rattle.explain_top.specs.Fields.{field_of}
use Rattle.explain_top.proofs.fields.fields.Given as goal

abbrev pub invariant-loop-column : goal.invariant-loop-column
invariant-loop-column l = l.text ≡ flat_map (field_of l.owner) (take l.column (all_columns l.graph))
