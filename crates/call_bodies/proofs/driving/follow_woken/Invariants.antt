use Rattle.call_bodies.specs.Driving.{GoesOn}
use Rattle.call_bodies.proofs.driving.follow_woken.Given as goal

abbrev pub invariant-loop : goal.invariant-loop
invariant-loop g l = GoesOn l.initial.core (g.B.Bodies.memory l.initial.bodies) (g.B.Bodies.does l.initial.bodies) l.core (g.B.Bodies.memory l.bodies) (g.B.Bodies.does l.bodies)
