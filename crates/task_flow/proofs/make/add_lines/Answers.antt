use Rattle.std.proofs.Common.{◌≡◌, length, ap, subst, arith}
use Rattle.task_flow.specs.Making.{IsMaking}
use Rattle.task_flow.proofs.make.add_lines.Goals as goal

pub loop-line-init : goal.loop-line-init
loop-line-init c = record {
  rows = c.in_ok-rows.ensures.kept c.args.sections.now.commute;
  count = ap length c.in_ok-rows.ensures.none;
  making = c.requires.none;
  within = λ j h. absurd (omega arith);
}

pub returns-clause-all : goal.returns-clause-all
returns-clause-all c =
    let all : c.loop-line.line ≡ length c.args.flow.now.lines = (let n = c.lines-line-end.ensures.number in let t = c.loop-line-test.false in let e = c.loop-line.auto.line-end in omega (arith, n, t, e)) in
    subst (λ n. IsMaking c.args.flow.now c.args.sections.now.commute n c.loop-line.making) all c.loop-line.invariant.making
