use Rattle.std.proofs.Common.{◌≡◌, length}
use Rattle.basics.specs.Words.{contents}
use Rattle.line_forms.specs.Columns.{repeated_column}
use Rattle.line_forms.proofs.twice.repeated_column.Given as goal

abbrev pub invariant-loop-rest : goal.invariant-loop-rest
invariant-loop-rest l = repeated_column (contents l.words) ≡ repeated_column (contents l.rest)

abbrev pub decreases-loop-rest : goal.decreases-loop-rest
decreases-loop-rest l = length l.rest
