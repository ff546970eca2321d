use Rattle.std.proofs.Common.{sym}
use Rattle.realm_timeline.proofs.LoopFacts.{runs_read}
use Rattle.realm_timeline.proofs.simulation.Simulation.finish_on.Goals as goal

pub finish_of-requires : goal.finish_of-requires
finish_of-requires c = c.requires.slots c.args.processor c.in_ok-line.line (runs_read c.args.self.now.running.items c.args.processor c.in_ok-line.line c.index.result.now c.index.ensures c.requires.processor c.in_ok-line.was)

pub returns : goal.returns
returns c =
    let runs = runs_read c.args.self.now.running.items c.args.processor c.in_ok-line.line c.index.result.now c.index.ensures c.requires.processor c.in_ok-line.was in
    let x = c.requires.slots c.args.processor c.in_ok-line.line runs in
    (c.in_ok-line.line, x.0, runs, x.1, sym (c.finish_of.ensures x.0 x.1))
