use Rattle.call_bodies.specs.Driving.{GoesOn}
use Rattle.call_bodies.proofs.driving.start.Given as goal

abbrev pub invariant-loop-edge : goal.invariant-loop-edge
invariant-loop-edge g l = GoesOn l.initial.core (g.B.Bodies.memory l.initial.bodies) (g.B.Bodies.does l.initial.bodies) l.core (g.B.Bodies.memory l.bodies) (g.B.Bodies.does l.bodies)
