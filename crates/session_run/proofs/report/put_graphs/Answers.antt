use Rattle.basics.proofs.ListParts.{flat_item}
use Rattle.realm_io.proofs.Public.{stops, goes_on, breaks_off}
use Rattle.session_run.specs.declared.running.RanGraph.{RanGraph}
use Rattle.session_run.specs.Running.{linked_of}
use Rattle.session_run.specs.Report.{graph_report}
use Rattle.session_run.proofs.report.put_graphs.Goals as goal

pub returns-in_err-put_graph : goal.returns-in_err-put_graph
returns-in_err-put_graph g c =
    stops _ _ _ c.from_residual.result c.from_residual.ensures.0
    (breaks_off _ _ _ _ _ _ _ c.loop-ran.invariant (flat_item (λ (x : RanGraph). graph_report (linked_of x)) c.args.graphs.now c.loop-ran.ran-index c.ran-item.result c.loop-ran-test.true c.ran-item.is) c.in_err-put_graph.ensures)

pub loop-ran-preserved : goal.loop-ran-preserved
loop-ran-preserved g c = goes_on _ _ _ _ _ _ _ c.loop-ran.invariant (flat_item (λ (x : RanGraph). graph_report (linked_of x)) c.args.graphs.now c.loop-ran.ran-index c.ran-item.result c.loop-ran-test.true c.ran-item.is) c.in_ok-put_graph.ensures
