use Rattle.std.proofs.Common.{length}
use Rattle.graph_terms.specs.Fits.{AreValues}
use Rattle.graph_terms.proofs.verb.are_values.Given as goal

abbrev pub invariant-loop-rest : goal.invariant-loop-rest
invariant-loop-rest l = AreValues l.rest → AreValues l.values

abbrev pub decreases-loop-rest : goal.decreases-loop-rest
decreases-loop-rest l = length l.rest
