use Rattle.realm_timeline.specs.NextFinish.{IsSoonest}
use Rattle.realm_timeline.proofs.simulation.Simulation.next_finish.Given as goal

abbrev pub invariant-loop-processor : goal.invariant-loop-processor
invariant-loop-processor l = IsSoonest l.self.slots.items l.self.running.items l.processor l.next
