use Rattle.std.proofs.Common.{◌≡◌, ◌-◌, ◌*◌, ◌≤◌, drop}
use Rattle.run_report.specs.Report.{cells_text}
use Rattle.run_report.proofs.report.add_cells.Given as goal

abbrev pub invariant-loop-rank : goal.invariant-loop-rank
invariant-loop-rank l = record {
  low : l.first ≤ l.rank;
  high : l.rank ≤ l.end;
  start : l.start ≤ 504;
  room : 21 * (l.rank - l.first) ≤ l.start;
  bytes : drop l.start l.text ≡ cells_text l.column.cells l.rank l.end;
}

abbrev pub decreases-loop-rank : goal.decreases-loop-rank
decreases-loop-rank l = l.rank - l.first
