use Rattle.std.proofs.Common.{◌≡◌, ℕ, ◌<◌, ◌%◌, get_or}
use Rattle.index_spaces.specs.Space.{point_at, space_size}
use Rattle.index_spaces.specs.Column.{cell_of}
use Rattle.kernel_table.proofs.gather.pick_each.Given as goal

abbrev pub invariant-loop-k : goal.invariant-loop-k
invariant-loop-k l = (j : ℕ) → j < l.k → get_or l.cells j 0 ≡ cell_of l.y (point_at l.picks (get_or l.numbers j 0 % space_size l.picks))
