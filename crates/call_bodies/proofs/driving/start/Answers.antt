use Rattle.std.proofs.Common.{ap}
use Rattle.call_bodies.proofs.Driven.{goes_further, goes_same}
use Rattle.call_bodies.proofs.driving.start.Goals as goal
use Rattle.call_bodies.proofs.driving.start.Goals.{then-edge-line, else-edge-line}

pub loop-edge-preserved : goal.loop-edge-preserved
loop-edge-preserved g c =
    elim c.if-edge-line.branch [
      | then-edge-line w ↦ goes_same c.run_line.new.core (g.B.Bodies.memory c.run_line.new.bodies) (g.B.Bodies.does c.run_line.new.bodies) w.run_line-then-edge-line.new.core c.if-edge-line.core (g.B.Bodies.memory w.run_line-then-edge-line.new.bodies) (g.B.Bodies.memory c.if-edge-line.bodies) (g.B.Bodies.does w.run_line-then-edge-line.new.bodies) (g.B.Bodies.does c.if-edge-line.bodies) w.core-is (ap g.B.Bodies.memory w.bodies-is) (ap g.B.Bodies.does w.bodies-is)
          (goes_further c.run_line.new.core c.loop-edge.core w.run_line-then-edge-line.new.core (g.B.Bodies.memory c.run_line.new.bodies) (g.B.Bodies.memory c.loop-edge.bodies) (g.B.Bodies.memory w.run_line-then-edge-line.new.bodies) (g.B.Bodies.does c.run_line.new.bodies) (g.B.Bodies.does c.loop-edge.bodies) (g.B.Bodies.does w.run_line-then-edge-line.new.bodies)
          (c.loop-edge.invariant)
          (w.run_line-then-edge-line.ensures.goes_on))
      | else-edge-line w ↦ goes_same c.run_line.new.core (g.B.Bodies.memory c.run_line.new.bodies) (g.B.Bodies.does c.run_line.new.bodies) c.loop-edge.core c.if-edge-line.core (g.B.Bodies.memory c.loop-edge.bodies) (g.B.Bodies.memory c.if-edge-line.bodies) (g.B.Bodies.does c.loop-edge.bodies) (g.B.Bodies.does c.if-edge-line.bodies) w.core-is (ap g.B.Bodies.memory w.bodies-is) (ap g.B.Bodies.does w.bodies-is)
          (c.loop-edge.invariant)
    ]

pub returns : goal.returns
returns g c = record {
  goes_on = goes_further c.args.core.now c.run_line.new.core c.follow_woken.new.core (g.B.Bodies.memory c.args.bodies.now) (g.B.Bodies.memory c.run_line.new.bodies) (g.B.Bodies.memory c.follow_woken.new.bodies) (g.B.Bodies.does c.args.bodies.now) (g.B.Bodies.does c.run_line.new.bodies) (g.B.Bodies.does c.follow_woken.new.bodies)
      (c.run_line.ensures.goes_on)
      (goes_further c.run_line.new.core c.loop-edge.core c.follow_woken.new.core (g.B.Bodies.memory c.run_line.new.bodies) (g.B.Bodies.memory c.loop-edge.bodies) (g.B.Bodies.memory c.follow_woken.new.bodies) (g.B.Bodies.does c.run_line.new.bodies) (g.B.Bodies.does c.loop-edge.bodies) (g.B.Bodies.does c.follow_woken.new.bodies)
      (c.loop-edge.invariant)
      (c.follow_woken.ensures.goes_on));
}
