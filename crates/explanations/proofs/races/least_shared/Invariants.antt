use Rattle.std.proofs.Common.{take}
use Rattle.std.specs.Prelude.{Contains}
use Rattle.graph_terms.specs.Access.{all_accesses}
use Rattle.explanations.specs.Shared.{IsLeastAmong}
use Rattle.explanations.proofs.races.least_shared.Given as goal

abbrev pub invariant-loop-k : goal.invariant-loop-k
invariant-loop-k l = IsLeastAmong l.graph (λ a b. Contains (take l.k (all_accesses l.graph l.first)) a × Contains (all_accesses l.graph l.second) b) l.best
