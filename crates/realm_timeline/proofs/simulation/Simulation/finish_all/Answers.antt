use Rattle.std.proofs.Common.{length, refl, arith}
use Rattle.realm_timeline.specs.State.{state_of}
use Rattle.realm_timeline.proofs.FinishFacts.{finishing_begins, all_finished}
use Rattle.realm_timeline.proofs.simulation.Simulation.finish_all.Goals as goal

pub loop-processor-init : goal.loop-processor-init
loop-processor-init c = record {
  finishing = finishing_begins c.args.graph.now (length c.args.self.now.running.items) (state_of c.args.self.now) c.args.next c.requires.started_all c.requires.next;
  count = refl;
}

pub returns-clause-simulation : goal.returns-clause-simulation
returns-clause-simulation c = (all_finished c.args.graph.now (length c.args.self.now.running.items) (state_of c.args.self.now) (state_of c.loop-processor.self) c.loop-processor.processor c.args.next c.requires.started_all c.requires.next c.loop-processor.invariant.finishing (omega (arith, c.loop-processor.invariant.count))).0

pub returns-clause-fewer : goal.returns-clause-fewer
returns-clause-fewer c = (all_finished c.args.graph.now (length c.args.self.now.running.items) (state_of c.args.self.now) (state_of c.loop-processor.self) c.loop-processor.processor c.args.next c.requires.started_all c.requires.next c.loop-processor.invariant.finishing (omega (arith, c.loop-processor.invariant.count))).1
