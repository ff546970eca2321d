use Rattle.std.proofs.Common.{drop}
use Rattle.run_report.specs.Report.{phase_texts}
use Rattle.realm_io.specs.Written.{Progress}
use Rattle.run_report.proofs.report.put_phases.Given as goal

abbrev pub invariant-loop-i : goal.invariant-loop-i
invariant-loop-i g l =
    Progress (g.K.Sink.state l.initial.sink) (g.K.Sink.state l.sink)
    (phase_texts l.graph.lines l.outcome.phases) (phase_texts (drop l.i l.graph.lines) (drop l.i l.outcome.phases))
