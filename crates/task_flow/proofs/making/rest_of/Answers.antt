use Rattle.std.proofs.Common.{◌∙◌, ap}
use Rattle.flow_order.specs.SourceParts.{with_event}
use Rattle.task_flow.proofs.Growth.{rest_more, rest_whole}
use Rattle.task_flow.proofs.making.rest_of.Goals as goal

pub loop-i-preserved : goal.loop-i-preserved
loop-i-preserved c = rest_more c.args.events.now c.loop-i.rest c.push.new.self c.args.most c.loop-i.i c.at.result c.loop-i.auto.i c.at.ensures c.loop-i.invariant c.in_ok-push.ensures.ok

pub returns : goal.returns
returns c = c.in_ok-add_event.ensures ∙ ap (λ xs. with_event xs c.args.event) (c.loop-i.invariant ∙ rest_whole c.args.events.now c.args.most c.len-i-end.result c.loop-i.i c.len-i-end.ensures c.loop-i-test.false)
