use Rattle.std.proofs.Common.{◌<◌, ◌≤◌, arith}
use Rattle.call_bodies.specs.Driving.{left}
use Rattle.call_bodies.proofs.Driven.{goes_further, issued_goes, issued_less}
use Rattle.call_bodies.proofs.driving.issue.Goals as goal

pub returns-clause-goes_on : goal.returns-clause-goes_on
returns-clause-goes_on g c =
    let a = c.in-Issued.ensures.answer in
    goes_further c.args.core.now c.issue.new.self c.start.new.core (g.B.Bodies.memory c.args.bodies.now) (g.B.Bodies.memory c.args.bodies.now) (g.B.Bodies.memory c.start.new.bodies) (g.B.Bodies.does c.args.bodies.now) (g.B.Bodies.does c.args.bodies.now) (g.B.Bodies.does c.start.new.bodies)
    (issued_goes c.args.core.now c.issue.new.self a.2 (g.B.Bodies.memory c.args.bodies.now) (g.B.Bodies.does c.args.bodies.now) c.requires.host c.is_sound.ensures.sound a.0 a.5 c.in-Issued.ensures.out)
    (c.start.ensures.goes_on)

pub returns-clause-moved : goal.returns-clause-moved
returns-clause-moved g c _ =
    let a = c.in-Issued.ensures.answer in
    let less : left c.issue.new.self < left c.args.core.now = issued_less c.args.core.now c.issue.new.self a.2 (g.B.Bodies.memory c.args.bodies.now) (g.B.Bodies.does c.args.bodies.now) c.requires.host c.is_sound.ensures.sound a.0 a.5 in
    let rest : left c.start.new.core ≤ left c.issue.new.self = c.start.ensures.goes_on.less in
    omega (arith, less, rest)
