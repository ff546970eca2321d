use Rattle.std.proofs.Common.{◌≡◌, ℕ, ◌<◌, ◌≤◌, length, get_or}
use Rattle.kernel_table.proofs.walk.set_each.Given as goal

abbrev pub invariant-loop-k : goal.invariant-loop-k
invariant-loop-k g l = record {
  set : (j : ℕ) → j < l.k → goal.F-post g l.f j (get_or l.initial.cells j 0) (get_or l.cells j 0);
  left : (j : ℕ) → l.k ≤ j → get_or l.cells j 0 ≡ get_or l.initial.cells j 0;
  callable : (j : ℕ) → j < length l.initial.cells → goal.F-pre g l.f j (get_or l.initial.cells j 0);
}
