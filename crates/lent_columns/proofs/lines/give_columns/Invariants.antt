use Rattle.lent_columns.proofs.LineFacts.{GivenSoFar}
use Rattle.lent_columns.proofs.lines.give_columns.Given as goal

abbrev pub invariant-loop-k : goal.invariant-loop-k
invariant-loop-k l = record { given : GivenSoFar l.graph l.line l.k l.initial.held l.held l.initial.homes l.homes }
