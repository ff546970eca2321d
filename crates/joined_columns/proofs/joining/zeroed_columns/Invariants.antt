use Rattle.std.proofs.Common.{◌≡◌, ◌≤◌, map, vec_len}
use Rattle.std.specs.Vec.{vec_capacity}
use Rattle.basics.specs.Lists.{numbers_below}
use Rattle.graph_meaning.specs.Effect.{zero_cells}
use Rattle.graph_meaning.specs.Evaluation.{column_of}
use Rattle.joined_columns.proofs.joining.zeroed_columns.Given as goal

abbrev pub invariant-loop-c : goal.invariant-loop-c
invariant-loop-c l = record {
  zeroed : l.zeroed.items ≡ map (column_of l.graph zero_cells) (numbers_below l.c);
  number : vec_len l.zeroed ≡ l.c;
  room : l.count ≤ vec_capacity l.zeroed;
}
