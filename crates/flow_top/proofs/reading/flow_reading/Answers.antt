use Rattle.std.proofs.Common.{◌∙◌}
use Rattle.std.proofs.lemmas.Result.{IfOk-weaker}
use Rattle.flow_top.proofs.WordForms.{as_flow}
use Rattle.flow_top.proofs.reading.flow_reading.Goals as goal

pub returns : goal.returns
returns c = IfOk-weaker c.text_reading.result _ _ (λ r h. as_flow c.args.bytes.now c.in-Some.rest.now c.as_slice.result.now r c.in-Some.ensures (c.as_slice.ensures.value ∙ c.in_ok-text.ensures) h) c.text_reading.ensures
