use Rattle.space_classes.proofs.Sweeping.{IsRelabelledTo}
use Rattle.space_classes.proofs.sweep.relabel.Given as goal

abbrev pub invariant-loop-k : goal.invariant-loop-k
invariant-loop-k l = IsRelabelledTo l.from l.to l.k l.initial.labels.items l.labels.items
