use Rattle.std.proofs.Common.{sym, ap, subst}
use Rattle.run_core.specs.Core.{CoreValue}
use Rattle.run_core.specs.Finishing.{IsQuiet}
use Rattle.call_bodies.proofs.Driven.{goes_further, goes_same, issued_goes, still_goes, still_before, by_issue, all_quiet}
use Rattle.call_bodies.proofs.driving.advance.Goals as goal
use Rattle.call_bodies.proofs.driving.advance.Goals.{then-issue-via-then-issue, then-issue-via-else-issue+then-scan}

pub returns-then-issue-clause-goes_on : goal.returns-then-issue-clause-goes_on
returns-then-issue-clause-goes_on g c =
    elim c.then-issue.branch [
      | then-issue-via-then-issue w ↦ goes_same c.args.core.now (g.B.Bodies.memory c.args.bodies.now) (g.B.Bodies.does c.args.bodies.now) c.issue.new.core c.then-issue.core (g.B.Bodies.memory c.issue.new.bodies) (g.B.Bodies.memory c.then-issue.bodies) (g.B.Bodies.does c.issue.new.bodies) (g.B.Bodies.does c.then-issue.bodies) w.core-is (ap g.B.Bodies.memory w.bodies-is) (ap g.B.Bodies.does w.bodies-is)
          (c.issue.ensures.goes_on)
      | then-issue-via-else-issue+then-scan w ↦ goes_same c.args.core.now (g.B.Bodies.memory c.args.bodies.now) (g.B.Bodies.does c.args.bodies.now) w.scan.new.core c.then-issue.core (g.B.Bodies.memory w.scan.new.bodies) (g.B.Bodies.memory c.then-issue.bodies) (g.B.Bodies.does w.scan.new.bodies) (g.B.Bodies.does c.then-issue.bodies) w.core-is (ap g.B.Bodies.memory w.bodies-is) (ap g.B.Bodies.does w.bodies-is)
          (goes_further c.args.core.now c.issue.new.core w.scan.new.core (g.B.Bodies.memory c.args.bodies.now) (g.B.Bodies.memory c.issue.new.bodies) (g.B.Bodies.memory w.scan.new.bodies) (g.B.Bodies.does c.args.bodies.now) (g.B.Bodies.does c.issue.new.bodies) (g.B.Bodies.does w.scan.new.bodies)
          (c.issue.ensures.goes_on)
          (w.scan.ensures.goes_on))
    ]

pub returns-in-Issued-clause-goes_on : goal.returns-in-Issued-clause-goes_on
returns-in-Issued-clause-goes_on g c =
    let a = c.in-Issued.ensures.answer in
    goes_further c.args.core.now c.issue.new.core c.issue-2.new.self (g.B.Bodies.memory c.args.bodies.now) (g.B.Bodies.memory c.issue.new.bodies) (g.B.Bodies.memory c.scan.new.bodies) (g.B.Bodies.does c.args.bodies.now) (g.B.Bodies.does c.issue.new.bodies) (g.B.Bodies.does c.scan.new.bodies)
    (c.issue.ensures.goes_on)
    (goes_further c.issue.new.core c.scan.new.core c.issue-2.new.self (g.B.Bodies.memory c.issue.new.bodies) (g.B.Bodies.memory c.scan.new.bodies) (g.B.Bodies.memory c.scan.new.bodies) (g.B.Bodies.does c.issue.new.bodies) (g.B.Bodies.does c.scan.new.bodies) (g.B.Bodies.does c.scan.new.bodies)
    (c.scan.ensures.goes_on)
    (issued_goes c.scan.new.core c.issue-2.new.self a.2 (g.B.Bodies.memory c.scan.new.bodies) (g.B.Bodies.does c.scan.new.bodies) c.scan.ensures.goes_on.host c.is_sound.ensures.sound a.0 a.5 c.in-Issued.ensures.out))

pub returns-in_default-clause-goes_on : goal.returns-in_default-clause-goes_on
returns-in_default-clause-goes_on g c =
    let kept = by_issue c.scan.new.core c.issue-2.new.self c.issue-2.result c.issue-2.ensures.answer c.in_default.not-Issued c.in_default.not-NoSlot in
    goes_further c.args.core.now c.issue.new.core c.issue-2.new.self (g.B.Bodies.memory c.args.bodies.now) (g.B.Bodies.memory c.issue.new.bodies) (g.B.Bodies.memory c.scan.new.bodies) (g.B.Bodies.does c.args.bodies.now) (g.B.Bodies.does c.issue.new.bodies) (g.B.Bodies.does c.scan.new.bodies)
    (c.issue.ensures.goes_on)
    (goes_further c.issue.new.core c.scan.new.core c.issue-2.new.self (g.B.Bodies.memory c.issue.new.bodies) (g.B.Bodies.memory c.scan.new.bodies) (g.B.Bodies.memory c.scan.new.bodies) (g.B.Bodies.does c.issue.new.bodies) (g.B.Bodies.does c.scan.new.bodies) (g.B.Bodies.does c.scan.new.bodies)
    (c.scan.ensures.goes_on)
    (still_goes c.scan.new.core c.issue-2.new.self (g.B.Bodies.memory c.scan.new.bodies) (g.B.Bodies.does c.scan.new.bodies) c.scan.ensures.goes_on.host (still_before c.scan.new.core c.issue-2.new.self kept.1)))

pub returns-in_default-clause-unmoved : goal.returns-in_default-clause-unmoved
returns-in_default-clause-unmoved g c _ =
    let kept = by_issue c.scan.new.core c.issue-2.new.self c.issue-2.result c.issue-2.ensures.answer c.in_default.not-Issued c.in_default.not-NoSlot in
    subst (λ (v : CoreValue). IsQuiet v.graph v.run) (sym kept.1) (all_quiet c.scan.new.core c.is_sound.ensures.sound c.scan.ensures.goes_on.host.nothing_out (c.scan.ensures.unmoved c.if-scan.false) kept.0)
