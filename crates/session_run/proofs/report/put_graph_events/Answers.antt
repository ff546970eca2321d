use Rattle.std.proofs.Common.{◌≡◌, ◌≤◌, ◌<◌, length, ◌∙◌, ap, subst, arith}
use Rattle.graph_terms.specs.Graph.{GraphValue}
use Rattle.realm_io.proofs.Public.{stops, goes_on, breaks_off, finishes}
use Rattle.realm_io.specs.Written.{Progress}
use Rattle.session_run.specs.Running.{linked_of}
use Rattle.session_run.specs.Report.{event_texts}
use Rattle.session_run.proofs.EventTexts.{event_next, events_over}
use Rattle.session_run.proofs.report.put_graph_events.Goals as goal

pub returns-in_err-put_event : goal.returns-in_err-put_event
returns-in_err-put_event g c =
    let x = linked_of c.args.ran.now in
    let lines : c.lines-line-end.result ≡ length x.graph.lines = c.lines-line-end.ensures.number ∙ ap (λ (y : GraphValue). length y.lines) c.graph.ensures.graph in
    let near : c.loop-line.line < length x.graph.lines = omega (arith, lines, c.loop-line-test.true) in
    stops _ _ _ c.from_residual.result c.from_residual.ensures.0 (breaks_off _ _ _ _ _ _ _ c.loop-line.invariant (event_next x c.loop-line.line near) c.in_err-put_event.ensures)

pub loop-line-preserved : goal.loop-line-preserved
loop-line-preserved g c =
    let x = linked_of c.args.ran.now in
    let lines : c.lines-line-end.result ≡ length x.graph.lines = c.lines-line-end.ensures.number ∙ ap (λ (y : GraphValue). length y.lines) c.graph.ensures.graph in
    let near : c.loop-line.line < length x.graph.lines = omega (arith, lines, c.loop-line-test.true) in
    goes_on _ _ _ _ _ _ _ c.loop-line.invariant (event_next x c.loop-line.line near) c.in_ok-put_event.ensures

pub returns : goal.returns
returns g c =
    let x = linked_of c.args.ran.now in
    let lines : c.lines-line-end.result ≡ length x.graph.lines = c.lines-line-end.ensures.number ∙ ap (λ (y : GraphValue). length y.lines) c.graph.ensures.graph in
    let past : length x.graph.lines ≤ c.loop-line.line = omega (arith, lines, c.loop-line-test.false) in
    finishes _ _ (event_texts x) (subst (λ rest. Progress (g.K.Sink.state c.args.sink.now) (g.K.Sink.state c.loop-line.sink) (event_texts x) rest) (events_over x c.loop-line.line past) c.loop-line.invariant)
