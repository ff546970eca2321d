use Rattle.std.proofs.Common.{◌≡◌, length}
use Rattle.realm_timeline.specs.State.{state_of}
use Rattle.realm_timeline.specs.NextFinish.{IsFinishing}
use Rattle.realm_timeline.proofs.simulation.Simulation.finish_all.Given as goal

abbrev pub invariant-loop-processor : goal.invariant-loop-processor
invariant-loop-processor l = record {
  finishing : IsFinishing l.graph (length l.fn.self.running.items) (state_of l.fn.self) (state_of l.self) l.processor l.next;
  count : length l.self.running.items ≡ length l.fn.self.running.items;
}
