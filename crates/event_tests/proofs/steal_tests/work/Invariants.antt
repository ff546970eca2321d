use Rattle.home_queues.specs.Hints.{IsSame}
use Rattle.event_tests.proofs.steal_tests.work.Given as goal

abbrev pub invariant-loop-turn : goal.invariant-loop-turn
invariant-loop-turn g l = IsSame l.initial.part l.part
