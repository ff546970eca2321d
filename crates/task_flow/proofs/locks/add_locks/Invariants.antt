use Rattle.std.proofs.Common.{◌≡◌, ◌+◌, ◌++◌, [], take}
use Rattle.graph_terms.specs.Limits.{limits}
use Rattle.task_flow.specs.Fitting.{lined}
use Rattle.task_flow.specs.Construction.{locks_from}
use Rattle.task_flow.proofs.locks.add_locks.Given as goal

abbrev pub invariant-loop-k : goal.invariant-loop-k
invariant-loop-k l = l.graph ≡ lined l.initial.graph.format (l.initial.graph.decls ++ take l.k (locks_from (l.first + (limits l.initial.graph.format).lines) l.columns)) []
