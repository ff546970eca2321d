use Rattle.std.proofs.Common.{◌≡◌, nat_eq, length}
use Rattle.graph_terms.specs.Fits.{repeats}
use Rattle.graph_indexes.proofs.repeats.few_repeat.Given as goal

abbrev pub invariant-loop-rest : goal.invariant-loop-rest
invariant-loop-rest l = repeats nat_eq l.numbers ≡ repeats nat_eq l.rest

abbrev pub decreases-loop-rest : goal.decreases-loop-rest
decreases-loop-rest l = length l.rest
