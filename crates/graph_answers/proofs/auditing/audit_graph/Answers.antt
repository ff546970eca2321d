use Rattle.graph_answers.specs.Refused.{Rejects}
use Rattle.graph_answers.specs.AuditAnswer.{PartsAnswer, TraceAnswers}
use Rattle.program_io.proofs.Public.{answered_by}
use Rattle.graph_answers.proofs.AuditAnswers.{trace_parts, rejected_parts}
use Rattle.graph_answers.proofs.auditing.audit_graph.Goals as goal

pub returns-in-Ok-clause-settled : goal.returns-in-Ok-clause-settled
returns-in-Ok-clause-settled g c =
    let back = c.args.back.now in
    answered_by (TraceAnswers c.in-Ok.checked.graph c.args.lines back) (PartsAnswer c.args.graph c.args.lines back) _ _ c.audit_trace.result (trace_parts c.in-Ok.checked.graph c.args.graph c.args.lines back c.in-Ok.ensures.accepted.0 c.in-Ok.ensures.accepted.1) c.audit_trace.ensures.read

pub returns-in-Err-clause-settled : goal.returns-in-Err-clause-settled
returns-in-Err-clause-settled g c =
    let back = c.args.back.now in
    answered_by (Rejects c.in-Err.unfit.graph) (PartsAnswer c.args.graph c.args.lines back) _ _ c.reject.result (rejected_parts c.in-Err.unfit.graph c.args.graph c.args.lines back c.in-Err.ensures.given_back) c.reject.ensures.rejected
