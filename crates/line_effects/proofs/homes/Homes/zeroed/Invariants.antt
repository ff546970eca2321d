use Rattle.std.proofs.Common.{◌≡◌, ◌≤◌, map, Some, vec_len}
use Rattle.std.specs.Vec.{vec_capacity}
use Rattle.basics.specs.Lists.{numbers_below}
use Rattle.graph_meaning.specs.Effect.{zero_cells}
use Rattle.graph_meaning.specs.Evaluation.{column_of}
use Rattle.line_effects.proofs.homes.Homes.zeroed.Given as goal

abbrev pub invariant-loop-c : goal.invariant-loop-c
invariant-loop-c l = record {
  home : l.places.items ≡ map (λ c. Some (column_of l.graph zero_cells c)) (numbers_below l.c);
  number : vec_len l.places ≡ l.c;
  room : l.count ≤ vec_capacity l.places;
}
