use Rattle.std.proofs.Common.{◌≡◌, ◌<◌, ℕ, false, length}
use Rattle.task_flow.specs.Construction.{is_over}
use Rattle.flow_order.specs.Rows.{IsKept}
use Rattle.task_flow.specs.Making.{IsMaking}
use Rattle.task_flow.proofs.make.add_lines.Given as goal

abbrev pub invariant-loop-line : goal.invariant-loop-line
invariant-loop-line l = record {
  rows : IsKept l.flow l.sections.commute l.rows;
  count : length l.rows.rows.items ≡ l.line;
  making : IsMaking l.flow l.sections.commute l.line l.making;
  within : (j : ℕ) → j < l.line → is_over l.flow l.sections.commute j ≡ false;
}
