use Rattle.run_core.specs.Finishing.{GoesOn, left_to_do}
use Rattle.run_core.proofs.run.Core.finish.Given as goal

abbrev pub invariant-loop : goal.invariant-loop
invariant-loop l = GoesOn l.initial.self l.self

abbrev pub decreases-loop : goal.decreases-loop
decreases-loop l = left_to_do l.self
