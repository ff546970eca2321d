use Rattle.std.proofs.Common.{◌≡◌, ◌≤◌, ◌+◌, true, length, ap, arith}
use Rattle.graph_terms.specs.Graph.{GraphValue}
use Rattle.call_bodies.proofs.Driven.{scan_begins, scan_moved, scan_stays, scan_ends, scan_same}
use Rattle.call_bodies.proofs.driving.scan.Goals as goal
use Rattle.call_bodies.proofs.driving.scan.Goals.{then-run_line, else-run_line}

pub loop-line-init : goal.loop-line-init
loop-line-init g c = scan_begins c.args.core.now (g.B.Bodies.memory c.args.bodies.now) (g.B.Bodies.does c.args.bodies.now) c.requires.host

pub loop-line-preserved : goal.loop-line-preserved
loop-line-preserved g c =
    elim c.if-run_line.branch [
      | then-run_line w ↦ scan_same c.args.core.now (g.B.Bodies.memory c.args.bodies.now) (g.B.Bodies.does c.args.bodies.now) w.follow_woken.new.core c.if-run_line.core (g.B.Bodies.memory w.follow_woken.new.bodies) (g.B.Bodies.memory c.if-run_line.bodies) (g.B.Bodies.does w.follow_woken.new.bodies) (g.B.Bodies.does c.if-run_line.bodies) true c.if-run_line.moved (c.loop-line.line + 1) w.core-is (ap g.B.Bodies.memory w.bodies-is) (ap g.B.Bodies.does w.bodies-is) w.moved-is
          (scan_moved c.args.core.now c.loop-line.core c.run_line.new.core w.follow_woken.new.core (g.B.Bodies.memory c.args.bodies.now) (g.B.Bodies.memory c.loop-line.bodies) (g.B.Bodies.memory c.run_line.new.bodies) (g.B.Bodies.memory w.follow_woken.new.bodies) (g.B.Bodies.does c.args.bodies.now) (g.B.Bodies.does c.loop-line.bodies) (g.B.Bodies.does c.run_line.new.bodies) (g.B.Bodies.does w.follow_woken.new.bodies) c.loop-line.moved c.loop-line.line (c.loop-line.line + 1) c.loop-line.invariant c.run_line.ensures.goes_on (c.run_line.ensures.moved w.if-run_line.true) w.follow_woken.ensures.goes_on)
      | else-run_line w ↦ (
          let unmoved = c.run_line.ensures.unmoved w.if-run_line.false in
          scan_same c.args.core.now (g.B.Bodies.memory c.args.bodies.now) (g.B.Bodies.does c.args.bodies.now) c.run_line.new.core c.if-run_line.core (g.B.Bodies.memory c.run_line.new.bodies) (g.B.Bodies.memory c.if-run_line.bodies) (g.B.Bodies.does c.run_line.new.bodies) (g.B.Bodies.does c.if-run_line.bodies) c.loop-line.moved c.if-run_line.moved (c.loop-line.line + 1) w.core-is (ap g.B.Bodies.memory w.bodies-is) (ap g.B.Bodies.does w.bodies-is) w.moved-is
          (scan_stays c.args.core.now c.loop-line.core c.run_line.new.core (g.B.Bodies.memory c.args.bodies.now) (g.B.Bodies.memory c.loop-line.bodies) (g.B.Bodies.memory c.run_line.new.bodies) (g.B.Bodies.does c.args.bodies.now) (g.B.Bodies.does c.loop-line.bodies) (g.B.Bodies.does c.run_line.new.bodies) c.loop-line.moved c.loop-line.line c.loop-line.invariant c.run_line.ensures.goes_on unmoved.0 unmoved.1))
    ]

pub returns-clause-unmoved : goal.returns-clause-unmoved
returns-clause-unmoved g c =
    let all : length c.args.core.now.graph.lines ≤ c.loop-line.line =
    let lines : length c.graph.result.now.lines ≡ length c.args.core.now.graph.lines = ap (λ (h : GraphValue). length h.lines) c.graph.ensures in
    omega (arith, lines, c.lines-line-end.ensures.number) in
    scan_ends c.args.core.now c.loop-line.core (g.B.Bodies.memory c.args.bodies.now) (g.B.Bodies.memory c.loop-line.bodies) (g.B.Bodies.does c.args.bodies.now) (g.B.Bodies.does c.loop-line.bodies) c.loop-line.moved c.loop-line.line c.is_sound.ensures.sound c.loop-line.invariant all
