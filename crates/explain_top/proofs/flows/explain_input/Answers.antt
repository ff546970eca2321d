use Rattle.std.proofs.Common.{subst, inl}
use Rattle.std.proofs.lemmas.Result.{IfOk-weaker}
use Rattle.flow_top.specs.FlowText.{IsFlowReading}
use Rattle.explain_top.proofs.flows.explain_input.Goals as goal

pub returns-in-Header : goal.returns-in-Header
returns-in-Header c = IfOk-weaker c.explain_in.result _ _ (λ a h. inl (subst (IsFlowReading c.args.bytes.now) c.in-Header.is c.in_ok-flow_reading.ensures, h)) c.explain_in.ensures
