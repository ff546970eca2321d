use Rattle.std.proofs.Common.{drop}
use Rattle.run_report.specs.Report.{column_texts}
use Rattle.realm_io.specs.Written.{Progress}
use Rattle.run_report.proofs.report.put_columns.Given as goal

abbrev pub invariant-loop-c : goal.invariant-loop-c
invariant-loop-c g l =
    Progress (g.K.Sink.state l.initial.sink) (g.K.Sink.state l.sink)
    (column_texts l.graph 0 l.outcome.columns) (column_texts l.graph l.c (drop l.c l.outcome.columns))
