use Rattle.std.proofs.Common.{◌≡◌, ◌≤◌, length, map, take, vec_len}
use Rattle.std.specs.Vec.{vec_capacity}
use Rattle.run_core.specs.Resumed.{value_or_zero}
use Rattle.run_core.proofs.run.resume.values_of.Given as goal

abbrev pub invariant-loop-value : goal.invariant-loop-value
invariant-loop-value l = record {
  so_far : l.values.items ≡ map value_or_zero (take l.value-index l.phases);
  number : vec_len l.values ≡ l.value-index;
  room : length l.phases ≤ vec_capacity l.values;
}
