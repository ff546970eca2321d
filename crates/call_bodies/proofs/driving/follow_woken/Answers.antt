use Rattle.call_bodies.proofs.Driven.{goes_further, woken_goes, still_goes, still_before}
use Rattle.call_bodies.proofs.driving.follow_woken.Goals as goal

pub loop-preserved : goal.loop-preserved
loop-preserved g c =
    let m = g.B.Bodies.memory c.loop.bodies in
    let by = g.B.Bodies.does c.loop.bodies in
    goes_further c.args.core.now c.loop.core c.run_line.new.core (g.B.Bodies.memory c.args.bodies.now) m (g.B.Bodies.memory c.run_line.new.bodies) (g.B.Bodies.does c.args.bodies.now) by (g.B.Bodies.does c.run_line.new.bodies)
    c.loop.invariant
    (goes_further c.loop.core c.next_woken.new.self c.run_line.new.core m m (g.B.Bodies.memory c.run_line.new.bodies) by by (g.B.Bodies.does c.run_line.new.bodies)
    (woken_goes c.loop.core c.next_woken.new.self c.in-Some.line m by c.loop.invariant.host c.in-Some.ensures.some.0) c.run_line.ensures.goes_on)

pub run_line-requires-clause-host : goal.run_line-requires-clause-host
run_line-requires-clause-host g c = (woken_goes c.loop.core c.next_woken.new.self c.in-Some.line (g.B.Bodies.memory c.loop.bodies) (g.B.Bodies.does c.loop.bodies) c.loop.invariant.host c.in-Some.ensures.some.0).host

pub returns-in_default : goal.returns-in_default
returns-in_default g c =
    let m = g.B.Bodies.memory c.loop.bodies in
    let by = g.B.Bodies.does c.loop.bodies in
    record {
      goes_on = goes_further c.args.core.now c.loop.core c.next_woken.new.self (g.B.Bodies.memory c.args.bodies.now) m m (g.B.Bodies.does c.args.bodies.now) by by
          c.loop.invariant (still_goes c.loop.core c.next_woken.new.self m by c.loop.invariant.host (still_before c.loop.core c.next_woken.new.self c.in_default.ensures.none.1));
    }
