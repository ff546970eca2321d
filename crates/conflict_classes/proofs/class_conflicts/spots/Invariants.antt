use Rattle.conflict_classes.specs.Spots.{AreSpots}
use Rattle.conflict_classes.proofs.class_conflicts.spots.Given as goal

abbrev pub invariant-loop-class : goal.invariant-loop-class
invariant-loop-class l = AreSpots l.graph l.keys l.class l.spots.items
