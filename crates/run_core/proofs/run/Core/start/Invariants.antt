use Rattle.run_core.specs.Finishing.{GoesOn}
use Rattle.run_core.proofs.run.Core.start.Given as goal

abbrev pub invariant-loop-edge : goal.invariant-loop-edge
invariant-loop-edge l = GoesOn l.initial.self l.self
