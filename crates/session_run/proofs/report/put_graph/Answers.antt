use Rattle.std.proofs.Common.{ap, subst}
use Rattle.realm_io.specs.Written.{Wrote}
use Rattle.realm_io.proofs.Public.{stopped_early, then_writes, stops, writes_as, stopped_as}
use Rattle.session_text.specs.Session.{graph_line}
use Rattle.run_report.specs.Report.{evaluation_report}
use Rattle.session_run.proofs.report.put_graph.Goals as goal

pub returns-in_err-put_words : goal.returns-in_err-put_words
returns-in_err-put_words g c =
    let ran = c.args.ran.now in
    stops _ _ _ c.from_residual.result c.from_residual.ensures.0
    (stopped_early _ _ (graph_line ran.name) (evaluation_report ran.checked.graph) (stopped_as _ _ (graph_line c.bytes.result.now) (graph_line ran.name) (ap graph_line c.bytes.ensures.bytes) c.in_err-put_words.ensures))

pub returns : goal.returns
returns g c =
    let ran = c.args.ran.now in
    then_writes _ _ _ (graph_line ran.name) (evaluation_report ran.checked.graph) c.put_evaluation.result
    (subst (Wrote _ _) (ap graph_line c.bytes.ensures.bytes) c.in_ok-put_words.ensures)
    (writes_as _ _ (evaluation_report c.graph.result.now) (evaluation_report ran.checked.graph) c.put_evaluation.result (ap evaluation_report c.graph.ensures.graph) c.put_evaluation.ensures)
