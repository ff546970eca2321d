use Rattle.std.proofs.Common.{◌∙◌}
use Rattle.plain_eval.proofs.PhaseFacts.{totals}
use Rattle.plain_eval.proofs.phases.phase_values.Goals as goal

pub returns : goal.returns
returns c =
    totals c.phases_fit.ensures c.args.graph.now c.lines.ensures.is_graph c.as_slice-reduction-items.result.now c.loop-reduction.values.items c.loop-reduction.reduction-index (c.as_slice-reduction-items.ensures.value ∙ c.in_ok-reductions.ensures) c.loop-reduction.invariant.so_far c.loop-reduction-test.false
