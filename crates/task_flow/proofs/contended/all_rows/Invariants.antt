use Rattle.std.proofs.Common.{◌≡◌, length}
use Rattle.flow_order.specs.Rows.{IsKept}
use Rattle.task_flow.proofs.contended.all_rows.Given as goal

abbrev pub invariant-loop-line : goal.invariant-loop-line
invariant-loop-line l = IsKept l.flow l.commute l.rows × (length l.rows.rows.items ≡ l._line)
