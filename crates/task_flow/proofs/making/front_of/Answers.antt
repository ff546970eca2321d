use Rattle.std.proofs.Common.{min, ◌∙◌, ap}
use Rattle.task_flow.proofs.Growth.{take_least}
use Rattle.task_flow.proofs.making.front_of.Goals as goal

pub returns : goal.returns
returns c = c.loop-i.invariant ∙ take_least c.args.events.now c.args.most c.min-i-end.result c.loop-i.i (c.min-i-end.ensures ∙ ap (λ n. min n c.args.most) c.len.ensures) c.loop-i-test.false c.loop-i.auto.i-end
