use Rattle.line_effects.proofs.MovingFacts.{TakenSoFar}
use Rattle.line_effects.proofs.moving.take_columns.Given as goal

abbrev pub invariant-loop-k : goal.invariant-loop-k
invariant-loop-k l = record { taken : TakenSoFar l.graph l.line l.k l.initial.homes l.homes l.held }
