use Rattle.std.proofs.Common.{refl}
use Rattle.realm_timeline.proofs.StepFacts.{marks_release, marks_other}
use Rattle.realm_timeline.specs.State.{state_of}
use Rattle.realm_timeline.proofs.simulation.Simulation.mark_finished.Goals as goal

pub returns-in-Some : goal.returns-in-Some
returns-in-Some c = marks_release c.args.graph.now (state_of c.args.self.now) _ c.args.processor c.args.line c.in-Some.acquire c.remove_uses.new.queues.items c.in-Some.ensures.0 c.remove_uses.ensures.holder c.remove_uses.ensures.count c.remove_section.ensures.holder c.remove_section.ensures.count
    refl refl refl refl refl refl refl

pub returns-in_default : goal.returns-in_default
returns-in_default c = marks_other c.args.graph.now (state_of c.args.self.now) _ c.args.processor c.args.line c.in_default.ensures c.remove_uses.ensures.holder c.remove_uses.ensures.count refl refl refl refl refl refl refl
