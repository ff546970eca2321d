use Rattle.std.proofs.Common.{◌∙◌, arith}
use Rattle.basics.proofs.ListParts.{take_whole}
use Rattle.task_flow.proofs.making.list_of.Goals as goal

pub returns : goal.returns
returns c = c.loop-i.invariant ∙ take_whole c.args.events.now c.loop-i.i (let n = c.len-i-end.ensures in let t = c.loop-i-test.false in omega (arith, n, t))
