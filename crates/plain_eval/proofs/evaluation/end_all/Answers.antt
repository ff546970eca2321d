use Rattle.std.proofs.Common.{◌≡◌, length, sym, subst, add-one, arith}
use Rattle.graph_meaning.specs.Evaluation.{steps_after}
use Rattle.plain_eval.specs.State.{IsState}
use Rattle.plain_eval.proofs.evaluation.end_all.Goals as goal

pub loop-step-preserved : goal.loop-step-preserved
loop-step-preserved c = record {
  so_far = subst (λ n. IsState c.args.graph.now (steps_after c.args.graph.now n) c.end_lowest.new.self) (sym (add-one c.loop-step._step)) (c.in_ok-end_lowest.ensures (steps_after c.args.graph.now c.loop-step._step) c.loop-step.invariant.so_far);
}

pub returns : goal.returns
returns c =
    let all : c.loop-step._step ≡ length c.args.graph.now.lines = (let n = c.lines-step-end.ensures.number in let b = c.loop-step.auto._step-end in omega (arith, n, b, c.loop-step-test.false)) in
    subst (λ n. IsState c.args.graph.now (steps_after c.args.graph.now n) c.loop-step.state) all c.loop-step.invariant.so_far
