use Rattle.std.proofs.Common.{ℕ, ◌<◌}
use Rattle.refused_words.specs.Refused.{StandsBefore}
use Rattle.refused_words.specs.Repeats.{AreSeen}
use Rattle.refused_words.proofs.repeats.first_twice.Given as goal

abbrev pub invariant-loop-k : goal.invariant-loop-k
invariant-loop-k l = record {
  seen : AreSeen l.line.format l.line.words l.k l.seen.events l.seen.columns;
  none : (j : ℕ) → j < l.k → StandsBefore l.line.format l.line.words j → ⊥;
}
