use Rattle.std.proofs.Common.{drop}
use Rattle.std.specs.Prelude.{flat_map}
use Rattle.realm_io.specs.Written.{Progress}
use Rattle.session_run.specs.declared.running.RanGraph.{RanGraph}
use Rattle.session_run.specs.Running.{linked_of}
use Rattle.session_run.specs.Report.{event_texts}
use Rattle.session_run.proofs.report.put_events.Given as goal

abbrev pub invariant-loop-place : goal.invariant-loop-place
invariant-loop-place g l =
    Progress (g.K.Sink.state l.initial.sink) (g.K.Sink.state l.sink)
    (flat_map (λ (x : RanGraph). event_texts (linked_of x)) l.ended.graphs.items) (flat_map (λ (x : RanGraph). event_texts (linked_of x)) (drop l.place l.ended.graphs.items))
