use Rattle.run_core.proofs.FinishFacts.{Scanned}
use Rattle.run_core.proofs.run.Core.scan.Given as goal

abbrev pub invariant-loop-line : goal.invariant-loop-line
invariant-loop-line l = Scanned l.initial.self l.self l.moved l.line
