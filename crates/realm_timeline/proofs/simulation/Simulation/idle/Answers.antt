use Rattle.std.proofs.Common.{arith}
use Rattle.realm_timeline.proofs.StepFacts.{runs_some, busy_more}
use Rattle.realm_timeline.proofs.simulation.Simulation.idle.Goals as goal

pub loop-processor-preserved : goal.loop-processor-preserved
loop-processor-preserved c = busy_more c.args.self.now.running.items c.loop-processor.processor c.loop-processor.invariant
    (runs_some c.args.self.now.running.items c.loop-processor.processor c.index.result.now c.index.ensures (omega (arith, c.loop-processor-test.true)) c.if-is_none.ensures)
