use Rattle.call_bodies.specs.Driving.{GoesOn, left}
use Rattle.call_bodies.proofs.driving.drive.Given as goal

abbrev pub invariant-loop : goal.invariant-loop
invariant-loop g l = GoesOn l.initial.core (g.B.Bodies.memory l.initial.bodies) (g.B.Bodies.does l.initial.bodies) l.core (g.B.Bodies.memory l.bodies) (g.B.Bodies.does l.bodies)

abbrev pub decreases-loop : goal.decreases-loop
decreases-loop g l = left l.core
