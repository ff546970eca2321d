use Rattle.word_parts.specs.Preparing.{AreLoose}
use Rattle.word_parts.proofs.preparing.discard.Given as goal

abbrev pub invariant-loop-content : goal.invariant-loop-content
invariant-loop-content l = record { loose : AreLoose l.slots.items }

abbrev pub decreases-loop-content : goal.decreases-loop-content
decreases-loop-content l = goal.left-loop-content l
