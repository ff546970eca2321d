use Rattle.std.specs.Prelude.{Contains}
use Rattle.graph_terms.specs.declared.verb.Access.{Access}
use Rattle.conflict_classes.specs.Clash.{Clash}
use Rattle.conflict_classes.proofs.AccessSteps.{NoneAmong}
use Rattle.race_pairs.proofs.conflicts.some_clash.Given as goal

abbrev pub invariant-loop-one : goal.invariant-loop-one
invariant-loop-one l = NoneAmong (λ a. (b : Access) × Contains l.others b × Clash l.graph l.commuting a b) l.ones l.one-index
