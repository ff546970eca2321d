use Rattle.std.proofs.Common.{below_more, ◌∙◌, ap}
use Rattle.basics.specs.Words.{contents}
use Rattle.flow_top.proofs.WordForms.{form_at}
use Rattle.flow_top.proofs.reading.first_unlike_flow.Goals as goal

pub loop-line-preserved : goal.loop-line-preserved
loop-line-preserved c = below_more _ _ c.loop-line.invariant (form_at c.args.text.now c.loop-line.line _ _ _ (ap contents c.as_slice.ensures.value ∙ c.in_ok-lines.ensures) c.word.ensures c.in_ok-is_line_unlike_flow.ensures ∙ c.if-branch.false)
