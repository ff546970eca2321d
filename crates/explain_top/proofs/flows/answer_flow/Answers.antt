use Rattle.std.proofs.Common.{false, subst}
use Rattle.flow_top.specs.Answer.{IsFaultOfFlow}
use Rattle.flow_top.proofs.Public.{few_items}
use Rattle.explain_top.proofs.FlowFacts.{accepted_whole, over_whole}
use Rattle.explain_top.proofs.flows.answer_flow.Goals as goal

pub answer_read-requires-clause-flow : goal.answer_read-requires-clause-flow
answer_read-requires-clause-flow c = (c.requires).is_flow

pub answer_read-requires-clause-few : goal.answer_read-requires-clause-few
answer_read-requires-clause-few c = few_items c.args.bytes.now c.args.flow.now c.requires

pub returns-in-Ok : goal.returns-in-Ok
returns-in-Ok c = accepted_whole c.answer_accepted.result c.args.all c.args.bytes.now c.args.flow.now c.in-Ok._text.items c.requires c.in-Ok.ensures.answer c.answer_accepted.ensures.verdict c.answer_accepted.ensures.text

pub returns-in-Err-Line : goal.returns-in-Err-Line
returns-in-Err-Line c = over_whole c.answer_over.result c.args.all c.args.bytes.now c.args.flow.now c.in-Err-Line.number _ c.requires (subst (IsFaultOfFlow c.args.flow.now false) c.in-Err-Line.field-0-is c.in-Err-Line.ensures.refusal) c.answer_over.ensures.verdict c.answer_over.ensures.text
