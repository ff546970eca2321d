use Rattle.std.proofs.Common.{◌≡◌, take}
use Rattle.std.specs.Prelude.{Contains}
use Rattle.graph_terms.specs.Access.{all_accesses}
use Rattle.explanations.specs.Shared.{IsLeastAmong}
use Rattle.explanations.proofs.races.shared_with.Given as goal

abbrev pub invariant-loop-k : goal.invariant-loop-k
invariant-loop-k l = IsLeastAmong l.graph (λ a b. (a ≡ l.one) × Contains (take l.k (all_accesses l.graph l.line)) b) l.best
