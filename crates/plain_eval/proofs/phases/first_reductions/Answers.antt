use Rattle.std.proofs.Common.{◌<◌, ◌∙◌, ap, length, arith}
use Rattle.std.proofs.lemmas.List.FromFn.{length-map-range_with_len}
use Rattle.graph_meaning.specs.Evaluation.{eval_end}
use Rattle.plain_eval.proofs.PhaseFacts.{first_more}
use Rattle.plain_eval.proofs.StateFacts.{end_shown}
use Rattle.plain_eval.proofs.phases.first_reductions.Goals as goal

pub bounds-ends-line : goal.bounds-ends-line
bounds-ends-line c =
    let count = ap length c.requires ∙ length-map-range_with_len (eval_end c.args.graph.now) 0 (length c.args.graph.now.lines) in
    omega (arith, count)

pub first_reduction-first-requires-clause-end : goal.first_reduction-first-requires-clause-end
first_reduction-first-requires-clause-end c =
    end_shown c.args.graph.now c.loop-line.line c.args.ends.now _ c.requires (let z : c.loop-line.line < length c.args.graph.now.lines = omega arith in z)

pub loop-line-preserved : goal.loop-line-preserved
loop-line-preserved c = record {
  so_far = first_more c.args.graph.now c.loop-line.line c.first_reduction-first.result c.loop-line.reductions.items c.push.new.items.items c.loop-line.invariant.so_far c.first_reduction-first.ensures c.in_ok-push.ensures.ok;
}
