use Rattle.std.specs.Prelude.{Contains}
use Rattle.graph_terms.specs.declared.verb.Access.{Access}
use Rattle.graph_terms.specs.Access.{all_accesses}
use Rattle.conflict_classes.specs.Clash.{Clash}
use Rattle.conflict_classes.proofs.AccessSteps.{NoneAmong}
use Rattle.conflict_classes.proofs.clash.lines_clash.Given as goal

abbrev pub invariant-loop-k : goal.invariant-loop-k
invariant-loop-k l = NoneAmong (λ a. (b : Access) × Contains (all_accesses l.graph l.other) b × Clash l.graph l.commuting a b) (all_accesses l.graph l.one) l.k
