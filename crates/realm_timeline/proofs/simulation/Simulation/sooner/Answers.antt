use Rattle.realm_timeline.proofs.FinishFacts.{soonest_more}
use Rattle.realm_timeline.proofs.simulation.Simulation.sooner.Goals as goal

pub returns-in-Some : goal.returns-in-Some
returns-in-Some c = soonest_more c.args.self.now.slots.items c.args.self.now.running.items c.args.processor c.args.next c.in-Some.finish c.sooner_of.result c.requires.up_to_now c.in-Some.ensures c.sooner_of.ensures
