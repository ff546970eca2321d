use Rattle.word_parts.specs.Preparing.{AreValues}
use Rattle.word_parts.proofs.preparing.first_words.Given as goal

abbrev pub invariant-loop-line : goal.invariant-loop-line
invariant-loop-line l = record { values : AreValues l.graph l.line l.words.items }
