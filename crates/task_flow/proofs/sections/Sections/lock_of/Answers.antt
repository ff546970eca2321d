use Rattle.std.proofs.Common.{◌≤◌, ◌+◌, arith}
use Rattle.task_flow.proofs.ContendSteps.{lock_small}
use Rattle.task_flow.proofs.sections.Sections.lock_of.Goals as goal

pub overflow_add-result : goal.overflow_add-result
overflow_add-result c =
    let b : c.locks.result + c.place_of.result ≤ 1024 = lock_small c.args.flow.now c.args.self.now c.requires.sections c.summed_column-column.result c.locks.result c.place_of.result c.locks.ensures.number c.place_of.ensures in
    omega arith
