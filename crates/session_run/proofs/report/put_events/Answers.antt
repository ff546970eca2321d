use Rattle.realm_io.proofs.Public.{stops, goes_on, breaks_off}
use Rattle.session_run.specs.declared.running.RanGraph.{RanGraph}
use Rattle.session_run.specs.Running.{linked_of}
use Rattle.session_run.specs.Report.{event_texts}
use Rattle.session_run.proofs.EventTexts.{graph_next}
use Rattle.session_run.proofs.report.put_events.Goals as goal

pub returns-in_err-put_graph_events : goal.returns-in_err-put_graph_events
returns-in_err-put_graph_events g c =
    stops _ _ _ c.from_residual.result c.from_residual.ensures.0
    (breaks_off _ _ _ _ _ _ _ c.loop-place.invariant (graph_next (λ (x : RanGraph). event_texts (linked_of x)) c.args.ended.now.graphs.items c.deref-ran-items.result.now c.loop-place.place c.ran-item.result c.deref-ran-items.ensures.value c.loop-place-test.true c.ran-item.is) c.in_err-put_graph_events.ensures)

pub loop-place-preserved : goal.loop-place-preserved
loop-place-preserved g c = goes_on _ _ _ _ _ _ _ c.loop-place.invariant (graph_next (λ (x : RanGraph). event_texts (linked_of x)) c.args.ended.now.graphs.items c.deref-ran-items.result.now c.loop-place.place c.ran-item.result c.deref-ran-items.ensures.value c.loop-place-test.true c.ran-item.is) c.in_ok-put_graph_events.ensures
