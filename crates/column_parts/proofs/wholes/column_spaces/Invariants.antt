use Rattle.std.proofs.Common.{◌≡◌, map, take}
use Rattle.std.specs.Prelude.{flat_map}
use Rattle.graph_terms.specs.declared.decl.ColumnInfo.{ColumnInfo}
use Rattle.graph_terms.specs.Graph.{columns_of}
use Rattle.column_parts.proofs.wholes.column_spaces.Given as goal

abbrev pub invariant-loop-d : goal.invariant-loop-d
invariant-loop-d l = l.spaces.items ≡ map (λ (x : ColumnInfo). x.space) (flat_map columns_of (take l.d l.graph.decls))
