use Rattle.space_classes.proofs.Choosing.{AreFirstsTo}
use Rattle.space_classes.proofs.classes.firsts.Given as goal

abbrev pub invariant-loop-k : goal.invariant-loop-k
invariant-loop-k l = AreFirstsTo l.labels l.k l.firsts.items
