use Rattle.realm_timeline.proofs.LoopFacts.{runs_read}
use Rattle.realm_timeline.proofs.simulation.Simulation.finish_if.Goals as goal

pub finish_of-requires : goal.finish_of-requires
finish_of-requires c =
    let x = (c.requires.consistent.runs c.args.processor c.in-Some.line (runs_read c.args.self.now.running.items c.args.processor c.in-Some.line c.index.result.now c.index.ensures c.requires.processor c.in-Some.is)).1 in
    (x.0, x.1)
