use Rattle.std.proofs.Common.{◌≡◌, ◌+◌, decimal, length}
use Rattle.graph_model.proofs.graph.words.number_size.Given as goal

abbrev pub invariant-loop-rest : goal.invariant-loop-rest
invariant-loop-rest l = l.size + length (decimal l.rest) ≡ length (decimal l.value) + 2

abbrev pub decreases-loop-rest : goal.decreases-loop-rest
decreases-loop-rest l = l.rest
