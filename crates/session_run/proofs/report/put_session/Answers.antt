use Rattle.realm_io.proofs.Public.{stopped_early, stopped_later, then_writes, stops, writes_as, stopped_as}
use Rattle.session_run.proofs.EventTexts.{report_is}
use Rattle.session_run.proofs.report.put_session.Goals as goal

pub returns-in_err-put_graphs : goal.returns-in_err-put_graphs
returns-in_err-put_graphs g c =
    stops _ _ _ c.from_residual.result c.from_residual.ensures.0 (stopped_as _ _ _ _ (report_is c.args.ended.now.graphs.items c.as_slice.result.now c.as_slice.ensures.value) (stopped_early _ _ _ _ c.in_err-put_graphs.ensures))

pub returns-in_err-put_events : goal.returns-in_err-put_events
returns-in_err-put_events g c =
    stops _ _ _ c.from_residual-in_err-put_events.result c.from_residual-in_err-put_events.ensures.0 (stopped_as _ _ _ _ (report_is c.args.ended.now.graphs.items c.as_slice.result.now c.as_slice.ensures.value) (stopped_later _ _ _ _ _ c.in_ok-put_graphs.ensures (stopped_early _ _ _ _ c.in_err-put_events.ensures)))

pub returns : goal.returns
returns g c =
    writes_as _ _ _ _ c.put_bytes.result (report_is c.args.ended.now.graphs.items c.as_slice.result.now c.as_slice.ensures.value)
    (then_writes _ _ _ _ _ c.put_bytes.result c.in_ok-put_graphs.ensures (then_writes _ _ _ _ _ c.put_bytes.result c.in_ok-put_events.ensures c.put_bytes.ensures))
