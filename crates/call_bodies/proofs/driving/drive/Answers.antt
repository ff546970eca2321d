use Rattle.call_bodies.proofs.Driven.{goes_further}
use Rattle.call_bodies.proofs.driving.drive.Goals as goal

pub loop-preserved : goal.loop-preserved
loop-preserved g c = goes_further c.args.core.now c.loop.core c.advance.new.core (g.B.Bodies.memory c.args.bodies.now) (g.B.Bodies.memory c.loop.bodies) (g.B.Bodies.memory c.advance.new.bodies) (g.B.Bodies.does c.args.bodies.now) (g.B.Bodies.does c.loop.bodies) (g.B.Bodies.does c.advance.new.bodies)
    (c.loop.invariant)
    (c.advance.ensures.goes_on)

pub returns-clause-goes_on : goal.returns-clause-goes_on
returns-clause-goes_on g c = goes_further c.args.core.now c.loop.core c.advance.new.core (g.B.Bodies.memory c.args.bodies.now) (g.B.Bodies.memory c.loop.bodies) (g.B.Bodies.memory c.advance.new.bodies) (g.B.Bodies.does c.args.bodies.now) (g.B.Bodies.does c.loop.bodies) (g.B.Bodies.does c.advance.new.bodies)
    (c.loop.invariant)
    (c.advance.ensures.goes_on)
