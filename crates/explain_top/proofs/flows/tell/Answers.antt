use Rattle.explain_top.proofs.FlowFacts.{as_flow_answer}
use Rattle.explain_top.proofs.flows.tell.Goals as goal

pub returns : goal.returns
returns c = as_flow_answer c.as_told.result c.args.all c.args.bytes.now c.args.whole.now c.most_bytes.result c.most_bytes.ensures.number c.requires c.as_told.ensures.verdict c.as_told.ensures.text c.as_told.ensures.few c.as_told.ensures.plain
