use Rattle.std.proofs.Common.{◌≡◌, ℕ, ◌+◌, ◌<◌, get_or, take}
use Rattle.std.specs.Prelude.{sum}
use Rattle.graph_meaning.specs.Effect.{wrapped}
use Rattle.kernel_table.proofs.scan.sum_along.Given as goal

abbrev pub invariant-loop-k : goal.invariant-loop-k
invariant-loop-k l = record {
  summed : (j : ℕ) → j < l.k → get_or l.cells j 0 ≡ wrapped (l.first + sum (take (j + 1) l.values));
  so_far : l.so_far ≡ wrapped (l.first + sum (take l.k l.values));
}
