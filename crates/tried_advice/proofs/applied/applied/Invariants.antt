use Rattle.std.proofs.Common.{◌≡◌}
use Rattle.tried_advice.proofs.AppliedSteps.{tried_lines}
use Rattle.tried_advice.proofs.applied.applied.Given as goal

abbrev pub invariant-loop-n : goal.invariant-loop-n
invariant-loop-n l = l.copy ≡ tried_lines l.graph l.form l.n
