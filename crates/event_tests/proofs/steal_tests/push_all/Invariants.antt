use Rattle.home_queues.specs.Hints.{IsSame}
use Rattle.event_tests.proofs.steal_tests.push_all.Given as goal

abbrev pub invariant-loop-line : goal.invariant-loop-line
invariant-loop-line g l = IsSame l.initial.part l.part
