use Rattle.run_core.specs.Finishing.{GoesOn}
use Rattle.run_core.proofs.run.Core.follow_woken.Given as goal

abbrev pub invariant-loop : goal.invariant-loop
invariant-loop l = GoesOn l.initial.self l.self
