use Rattle.std.proofs.Common.{refl}
use Rattle.task_window.specs.Pieces.{tasks_of, access_at}
use Rattle.task_window.proofs.Collecting.{met_by_more}
use Rattle.task_window.proofs.pieces.Pieces.collect.Goals as goal

pub loop-access-preserved : goal.loop-access-preserved
loop-access-preserved c =
    let k = c.loop-access.access-index in
    met_by_more (tasks_of c.args.self.now) c.args.sources.now.items c.loop-access.sources.items c.collect_access.new.sources.items c.args.accesses.now k (access_at c.args.accesses.now k) refl c.loop-access.invariant c.in_ok-collect_access.ensures
