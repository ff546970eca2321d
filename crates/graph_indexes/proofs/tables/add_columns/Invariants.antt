use Rattle.std.proofs.Common.{◌≡◌, ◌+◌, ◌≤◌, ◌++◌, length, map, take, vec_len}
use Rattle.std.specs.Vec.{vec_capacity}
use Rattle.graph_indexes.proofs.tables.add_columns.Given as goal

abbrev pub invariant-loop-field : goal.invariant-loop-field
invariant-loop-field l = record {
  added : l.columns.items ≡ l.initial.columns.items ++ map (λ f. record { inst = l.inst; field = f; space = l.space }) (take l.field-index l.names);
  room : vec_len l.columns + length l.names ≤ vec_capacity l.columns + l.field-index;
}
