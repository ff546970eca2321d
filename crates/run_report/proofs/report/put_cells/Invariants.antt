use Rattle.std.proofs.Common.{◌-◌, ◌≤◌}
use Rattle.realm_io.specs.Written.{Progress}
use Rattle.run_report.specs.Report.{cells_text}
use Rattle.run_report.proofs.report.put_cells.Given as goal

abbrev pub invariant-loop-rank : goal.invariant-loop-rank
invariant-loop-rank g l = record {
  low : l.first ≤ l.rank;
  high : l.rank ≤ l.end;
  progress : Progress (g.K.Sink.state l.initial.sink) (g.K.Sink.state l.sink)
      (cells_text l.column.cells l.first l.end) (cells_text l.column.cells l.rank l.end);
}

abbrev pub decreases-loop-rank : goal.decreases-loop-rank
decreases-loop-rank g l = l.end - l.rank
