use Rattle.std.proofs.Common.{◌≡◌, ◌+◌, ◌∷◌, ◌++◌, drop}
use Rattle.index_spaces.specs.Space.{space_size}
use Rattle.run_report.specs.Report.{cells_texts}
use Rattle.realm_io.specs.Written.{Progress}
use Rattle.run_report.proofs.report.put_intervals.Given as goal

abbrev pub invariant-loop-interval : goal.invariant-loop-interval
invariant-loop-interval g l = record {
  progress : Progress (g.K.Sink.state l.initial.sink) (g.K.Sink.state l.sink)
      (cells_texts (l.inst ++ 46 ∷ l.field) l.intervals l.column.cells) (cells_texts (l.inst ++ 46 ∷ l.field) (drop l.interval-index l.intervals) (drop l.first l.column.cells));
  ranked : l.first + space_size (drop l.interval-index l.intervals) ≡ space_size l.intervals;
}
