use Rattle.conflict_classes.specs.Clash.{Clash}
use Rattle.conflict_classes.proofs.AccessSteps.{NoneAmong}
use Rattle.race_pairs.proofs.conflicts.clashes_with.Given as goal

abbrev pub invariant-loop-other : goal.invariant-loop-other
invariant-loop-other l = NoneAmong (Clash l.graph l.commuting l.one) l.others l.other-index
