use Rattle.std.proofs.Common.{◌≡◌, ◌≤◌, length, map, vec_len}
use Rattle.std.specs.Vec.{vec_capacity}
use Rattle.basics.specs.Lists.{numbers_below}
use Rattle.run_state.specs.Start.{first_value}
use Rattle.run_lists.proofs.phases.first_values.Given as goal

abbrev pub invariant-loop-line : goal.invariant-loop-line
invariant-loop-line l = record {
  so_far : l.values.items ≡ map (first_value l.graph) (numbers_below l.line);
  number : vec_len l.values ≡ l.line;
  room : length l.graph.lines ≤ vec_capacity l.values;
}
