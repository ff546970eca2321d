use Rattle.std.proofs.Common.{[], sym, ap, subst}
use Rattle.realm_io.specs.Written.{Writes}
use Rattle.realm_io.proofs.Public.{stopped_early, then_writes, stops}
use Rattle.realm_audit.specs.Text.{trace_text}
use Rattle.run_report.specs.Report.{evaluation_report}
use Rattle.graph_answers.specs.Answer.{report_with, trace_part}
use Rattle.graph_answers.proofs.evaluating.put_outcome.Goals as goal

pub returns-in_err-put_evaluation : goal.returns-in_err-put_evaluation
returns-in_err-put_evaluation g c =
    stops _ _ _ c.from_residual.result c.from_residual.ensures.0
    (stopped_early _ _ (evaluation_report c.args.graph.now) (trace_part c.args.trace c.args.graph.now c.args.found.now.trace) c.in_err-put_evaluation.ensures)

pub returns-then-trace : goal.returns-then-trace
returns-then-trace g c =
    let graph = c.args.graph.now in
    subst (Writes _ _ c.put_trace.result) (ap (λ b. report_with b graph c.args.found.now.trace) (sym c.if-trace.true)) (then_writes _ _ _ (evaluation_report graph) (trace_text graph c.args.found.now.trace) c.put_trace.result c.in_ok-put_evaluation.ensures c.put_trace.ensures)

pub returns-else-trace : goal.returns-else-trace
returns-else-trace g c =
    let graph = c.args.graph.now in
    subst (Writes _ _ c.put_nothing.result) (ap (λ b. report_with b graph c.args.found.now.trace) (sym c.if-trace.false)) (then_writes _ _ _ (evaluation_report graph) [] c.put_nothing.result c.in_ok-put_evaluation.ensures c.put_nothing.ensures)
