use Rattle.std.proofs.Common.{◌≡◌, ℕ, ◌<◌, false}
use Rattle.refused_words.specs.Meets.{access_at, both_clash}
use Rattle.refused_words.proofs.meets.met_by.Given as goal

abbrev pub invariant-loop-j : goal.invariant-loop-j
invariant-loop-j l = (i : ℕ) → i < l.j → both_clash l.graph (access_at l.graph l.line.words i) (access_at l.graph l.line.words l.k) ≡ false
