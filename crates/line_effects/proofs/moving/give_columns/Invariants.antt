use Rattle.line_effects.proofs.MovingFacts.{GivenSoFar}
use Rattle.line_effects.proofs.moving.give_columns.Given as goal

abbrev pub invariant-loop-k : goal.invariant-loop-k
invariant-loop-k l = record { given : GivenSoFar l.graph l.line l.k l.initial.held l.initial.homes l.homes l.held }
