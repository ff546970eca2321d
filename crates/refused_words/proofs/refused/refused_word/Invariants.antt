use Rattle.std.proofs.Common.{ℕ, ◌<◌}
use Rattle.basics.specs.Words.{contents}
use Rattle.refused_words.specs.Refused.{IsRefusedAt}
use Rattle.refused_words.proofs.refused.refused_word.Given as goal

abbrev pub invariant-loop-k : goal.invariant-loop-k
invariant-loop-k l = (j : ℕ) → j < l.k → IsRefusedAt l.graph l.why (contents l.words) j → ⊥
