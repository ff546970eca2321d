use Rattle.std.proofs.Common.{◌≡◌, ◌+◌, ℕ, ◌<◌, ◌≤◌, length, get_or}
use Rattle.word_meanings.proofs.recent.is_again.Given as goal

abbrev pub invariant-loop-i : goal.invariant-loop-i
invariant-loop-i l = (k : ℕ) → k < length l.word → length l.word ≤ k + l.i → get_or l.word k 0 ≡ get_or l.other k 0
