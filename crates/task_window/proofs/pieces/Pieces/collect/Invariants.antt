use Rattle.task_window.specs.Pieces.{Collects, IsMetBy, tasks_of}
use Rattle.task_window.proofs.pieces.Pieces.collect.Given as goal

abbrev pub invariant-loop-access : goal.invariant-loop-access
invariant-loop-access l = Collects l.initial.sources.items l.sources.items (IsMetBy (tasks_of l.self) l.accesses l.access-index)
