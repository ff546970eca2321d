use Rattle.graph_terms.specs.Access.{all_accesses}
use Rattle.conflict_classes.specs.Clash.{Clash}
use Rattle.conflict_classes.proofs.AccessSteps.{NoneAmong}
use Rattle.conflict_classes.proofs.clash.clashes_with.Given as goal

abbrev pub invariant-loop-k : goal.invariant-loop-k
invariant-loop-k l = NoneAmong (Clash l.graph l.commuting l.one) (all_accesses l.graph l.line) l.k
