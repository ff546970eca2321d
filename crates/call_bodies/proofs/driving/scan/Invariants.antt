use Rattle.call_bodies.proofs.Driven.{Scanned}
use Rattle.call_bodies.proofs.driving.scan.Given as goal

abbrev pub invariant-loop-line : goal.invariant-loop-line
invariant-loop-line g l = Scanned l.initial.core (g.B.Bodies.memory l.initial.bodies) (g.B.Bodies.does l.initial.bodies) l.core (g.B.Bodies.memory l.bodies) (g.B.Bodies.does l.bodies) l.moved l.line
