use Rattle.task_window.specs.Pieces.{Collects, IsMetIn, tasks_of}
use Rattle.task_window.proofs.pieces.Pieces.collect_access.Given as goal

abbrev pub invariant-loop-piece : goal.invariant-loop-piece
invariant-loop-piece l = Collects l.initial.sources.items l.sources.items (IsMetIn (tasks_of l.self) l.access.first l.piece l.access.writes)
