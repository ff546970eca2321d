use Rattle.space_classes.specs.Classes.{values}
use Rattle.space_classes.proofs.Sweeping.{IsSwept}
use Rattle.space_classes.proofs.sweep.labels_of.Given as goal

abbrev pub invariant-loop-n : goal.invariant-loop-n
invariant-loop-n l = IsSwept (values l.spaces) l.spans l.n l.furthest l.labels.items l.seen.items
