use Rattle.std.proofs.Common.{length, ◌∙◌, arith}
use Rattle.flow_order.specs.Bits.{word_bit}
use Rattle.flow_order.specs.SourceParts.{sources_after}
use Rattle.task_flow.proofs.ContendSteps.{free_is, contended_is, contends_next, contends_skip}
use Rattle.task_flow.proofs.contended.contended.Goals as goal

pub returns-then-not-commute-clause-bits : goal.returns-then-not-commute-clause-bits
returns-then-not-commute-clause-bits c = λ k. free_is c.args.flow.now c.args.commute k (word_bit c.in_ok-bits.bits k) c.if-not-commute.true (c.in_ok-bits.ensures.bits k)

pub loop-line-preserved-in_default : goal.loop-line-preserved-in_default
loop-line-preserved-in_default c = record {
  size = c.loop-line.invariant.size;
  sums = c.skip.ensures;
  bits = λ k. contends_skip c.args.flow.now (sources_after c.args.flow.now c.args.commute (length c.args.flow.now.lines)) k c.loop-line.line (word_bit c.loop-line.bits k) c.in_default.ensures.access (c.loop-line.invariant.bits k);
}

pub loop-line-preserved : goal.loop-line-preserved
loop-line-preserved c = record {
  size = c.in_ok-mark_rivals.ensures.size ∙ c.loop-line.invariant.size;
  sums = c.add.ensures;
  bits = λ k. contends_next c.args.flow.now (sources_after c.args.flow.now c.args.commute (length c.args.flow.now.lines)) k c.loop-line.line (word_bit c.loop-line.bits k) (word_bit c.mark_rivals.new.bits k) (c.in_ok-mark_rivals.ensures.bits k) (c.loop-line.invariant.bits k);
}

pub returns-clause-bits : goal.returns-clause-bits
returns-clause-bits c = λ k.
    contended_is c.args.flow.now c.args.commute k c.loop-line.line (word_bit c.loop-line.bits k) c.if-not-commute.false (let n = c.lines-lines.ensures.number in let t = c.loop-line-test.false in omega (arith, n, t))
    (let n = c.lines-lines.ensures.number in let e = c.loop-line.auto.line-end in omega (arith, n, e)) (c.loop-line.invariant.bits k)
