use Rattle.std.proofs.Common.{◌≡◌, take}
use Rattle.graph_answers.specs.Texts.{cell_sum}
use Rattle.graph_answers.proofs.summary.cell_sum.Given as goal

abbrev pub invariant-loop-column : goal.invariant-loop-column
invariant-loop-column l = l.so_far ≡ cell_sum (take l.column-index l.columns)
