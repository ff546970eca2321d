use Rattle.std.proofs.Common.{◌≡◌, ℕ, ◌<◌, ◌%◌, length, get_or}
use Rattle.kernel_table.proofs.gather.pick_from.Given as goal

abbrev pub invariant-loop-k : goal.invariant-loop-k
invariant-loop-k l = (j : ℕ) → j < l.k → get_or l.cells j 0 ≡ get_or l.values (get_or l.numbers j 0 % length l.values) 0
