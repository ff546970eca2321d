use Rattle.std.proofs.Common.{◌≡◌, ◌+◌, ◌*◌, ◌≤◌, ℕ, decimal, length, take}
use Rattle.std.specs.Prelude.{sum_by}
use Rattle.graph_model.proofs.graph.call_sizes.values_size.Given as goal

abbrev pub invariant-loop-value : goal.invariant-loop-value
invariant-loop-value l = record {
  sum : l.size ≡ sum_by (λ (v : ℕ). length (decimal v) + 1) (take l.value-index l.values);
  few : l.size ≤ 21 * l.value-index;
}
