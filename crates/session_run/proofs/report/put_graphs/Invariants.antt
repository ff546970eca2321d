use Rattle.std.proofs.Common.{drop}
use Rattle.std.specs.Prelude.{flat_map}
use Rattle.realm_io.specs.Written.{Progress}
use Rattle.session_run.specs.declared.running.RanGraph.{RanGraph}
use Rattle.session_run.specs.Running.{linked_of}
use Rattle.session_run.specs.Report.{graph_report}
use Rattle.session_run.proofs.report.put_graphs.Given as goal

abbrev pub invariant-loop-ran : goal.invariant-loop-ran
invariant-loop-ran g l =
    Progress (g.K.Sink.state l.initial.sink) (g.K.Sink.state l.sink)
    (flat_map (λ (x : RanGraph). graph_report (linked_of x)) l.graphs) (flat_map (λ (x : RanGraph). graph_report (linked_of x)) (drop l.ran-index l.graphs))
