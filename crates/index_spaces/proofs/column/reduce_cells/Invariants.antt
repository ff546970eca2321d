use Rattle.std.proofs.Common.{◌≡◌, ℕ, ◌<◌, ◌≤◌, get_or}
use Rattle.index_spaces.specs.Run.{reduced_cell}
use Rattle.index_spaces.proofs.column.reduce_cells.Given as goal

abbrev pub invariant-loop-k : goal.invariant-loop-k
invariant-loop-k l = record {
  reduced : (j : ℕ) → j < l.k → get_or l.to j 0 ≡ reduced_cell l.op (get_or l.initial.to j 0) (get_or l.from j 0);
  left : (j : ℕ) → l.k ≤ j → get_or l.to j 0 ≡ get_or l.initial.to j 0;
}
