use Rattle.lent_columns.proofs.LineFacts.{TakenSoFar}
use Rattle.lent_columns.proofs.lines.take_columns.Given as goal

abbrev pub invariant-loop-k : goal.invariant-loop-k
invariant-loop-k l = record { taken : TakenSoFar l.graph l.line l.k l.initial.homes l.homes l.held }
