use Rattle.std.proofs.Common.{◌≡◌, ℕ, ◌<◌, false, get_or, None}
use Rattle.index_spaces.specs.Held.{is_numbered}
use Rattle.index_spaces.proofs.held.place_of.Given as goal

abbrev pub invariant-loop-k : goal.invariant-loop-k
invariant-loop-k l = (j : ℕ) → j < l.k → is_numbered l.c (get_or l.places j None) ≡ false
