use Rattle.run_core.specs.WhatIsOut.{SameOut}
use Rattle.run_tests.proofs.core_tests.drive.Given as goal

abbrev pub invariant-loop-turn : goal.invariant-loop-turn
invariant-loop-turn l = SameOut l.initial.core l.core
