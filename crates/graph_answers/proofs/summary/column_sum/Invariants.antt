use Rattle.std.proofs.Common.{◌≡◌, take}
use Rattle.std.specs.Prelude.{sum}
use Rattle.graph_meaning.specs.Effect.{wrapped}
use Rattle.graph_answers.proofs.summary.column_sum.Given as goal

abbrev pub invariant-loop-rank : goal.invariant-loop-rank
invariant-loop-rank l = l.so_far ≡ wrapped (sum (take l.rank l.column.cells))
