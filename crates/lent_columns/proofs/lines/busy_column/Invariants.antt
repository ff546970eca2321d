use Rattle.lent_columns.proofs.LineFacts.{OpenSoFar}
use Rattle.lent_columns.proofs.lines.busy_column.Given as goal

abbrev pub invariant-loop-k : goal.invariant-loop-k
invariant-loop-k l = record { open_yet : OpenSoFar l.graph l.line l.k l.homes }
