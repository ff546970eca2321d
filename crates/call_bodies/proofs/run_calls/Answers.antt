use Rattle.call_bodies.proofs.Ended.{evaluated_in_all, in_order_in_all, memory_in_all, ends_in_all}
use Rattle.call_bodies.proofs.run_calls.Goals as goal

pub returns-clause-evaluated : goal.returns-clause-evaluated
returns-clause-evaluated g c = evaluated_in_all c.args.checked.now.graph c.args.slots c.in_ok-core.core c.drive.new.core c.outcome.result (g.B.Bodies.memory c.args.bodies.now) (g.B.Bodies.memory c.drive.new.bodies) (g.B.Bodies.does c.args.bodies.now) (g.B.Bodies.does c.drive.new.bodies)
    c.in_ok-core.ensures.core c.drive.ensures.goes_on c.requires.keeps c.is_sound.ensures.sound c.drive.ensures.quiet c.outcome.ensures.evaluated c.outcome.ensures.in_order c.outcome.ensures.times

pub returns-clause-in_order : goal.returns-clause-in_order
returns-clause-in_order g c = in_order_in_all c.args.checked.now.graph c.args.slots c.in_ok-core.core c.drive.new.core c.outcome.result (g.B.Bodies.memory c.args.bodies.now) (g.B.Bodies.memory c.drive.new.bodies) (g.B.Bodies.does c.args.bodies.now) (g.B.Bodies.does c.drive.new.bodies)
    c.in_ok-core.ensures.core c.drive.ensures.goes_on c.requires.keeps c.is_sound.ensures.sound c.drive.ensures.quiet c.outcome.ensures.evaluated c.outcome.ensures.in_order c.outcome.ensures.times

pub returns-clause-ends : goal.returns-clause-ends
returns-clause-ends g c = ends_in_all c.args.checked.now.graph c.args.slots c.in_ok-core.core c.drive.new.core c.outcome.result (g.B.Bodies.memory c.args.bodies.now) (g.B.Bodies.memory c.drive.new.bodies) (g.B.Bodies.does c.args.bodies.now) (g.B.Bodies.does c.drive.new.bodies)
    c.in_ok-core.ensures.core c.drive.ensures.goes_on c.requires.keeps c.is_sound.ensures.sound c.drive.ensures.quiet c.outcome.ensures.evaluated c.outcome.ensures.in_order c.outcome.ensures.times c.waits_where_reached_for_all_effects.ensures c.host_agrees.ensures c.host_leaves_evaluation.ensures

pub returns-clause-memory : goal.returns-clause-memory
returns-clause-memory g c = memory_in_all c.args.checked.now.graph c.args.slots c.in_ok-core.core c.drive.new.core c.outcome.result (g.B.Bodies.memory c.args.bodies.now) (g.B.Bodies.memory c.drive.new.bodies) (g.B.Bodies.does c.args.bodies.now) (g.B.Bodies.does c.drive.new.bodies)
    c.in_ok-core.ensures.core c.drive.ensures.goes_on c.requires.keeps c.is_sound.ensures.sound c.drive.ensures.quiet c.outcome.ensures.evaluated c.outcome.ensures.in_order c.outcome.ensures.times c.waits_where_reached_for_all_effects.ensures c.host_agrees.ensures c.host_leaves_evaluation.ensures
