use Rattle.std.proofs.Common.{drop, length}
use Rattle.std.specs.Prelude.{flat_map}
use Rattle.basics.specs.Lists.{numbers_below}
use Rattle.realm_io.specs.Written.{Progress}
use Rattle.session_run.specs.Running.{linked_of}
use Rattle.session_run.specs.Report.{event_text, event_texts}
use Rattle.session_run.proofs.report.put_graph_events.Given as goal

abbrev pub invariant-loop-line : goal.invariant-loop-line
invariant-loop-line g l =
    Progress (g.K.Sink.state l.initial.sink) (g.K.Sink.state l.sink)
    (event_texts (linked_of l.ran)) (flat_map (event_text (linked_of l.ran)) (drop l.line (numbers_below (length l.ran.checked.graph.lines))))
