use Rattle.std.proofs.Common.{◌≡◌, ℕ, ◌+◌, ◌-◌, ◌<◌, get_or}
use Rattle.graph_meaning.specs.Effect.{wrapped}
use Rattle.kernel_table.proofs.stencil.sum_neighbors.Given as goal

abbrev pub invariant-loop-k : goal.invariant-loop-k
invariant-loop-k l = record {
  summed : (j : ℕ) → 0 < j → j + 1 < l.k → get_or l.cells j 0 ≡ wrapped (get_or l.values (j - 1) 0 + get_or l.values j 0 + get_or l.values (j + 1) 0);
}
