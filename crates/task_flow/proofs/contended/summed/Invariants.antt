use Rattle.std.proofs.Common.{◌≡◌, ◌≤◌, take, length}
use Rattle.std.specs.Prelude.{None, find}
use Rattle.graph_terms.specs.Access.{accesses}
use Rattle.task_flow.specs.Construction.{is_sum}
use Rattle.task_flow.proofs.contended.summed.Given as goal

abbrev pub invariant-loop-k : goal.invariant-loop-k
invariant-loop-k l = (find is_sum (take l.k (accesses l.flow l.line)) ≡ None) × (l.k ≤ length (accesses l.flow l.line))
