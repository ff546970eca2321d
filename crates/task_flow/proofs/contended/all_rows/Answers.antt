use Rattle.std.proofs.Common.{length, ap}
use Rattle.task_flow.proofs.contended.all_rows.Goals as goal

pub loop-line-init : goal.loop-line-init
loop-line-init c = (c.in_ok-rows.ensures.kept c.args.commute, ap length c.in_ok-rows.ensures.none)
