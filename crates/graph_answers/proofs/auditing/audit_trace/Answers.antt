use Rattle.std.proofs.Common.{sym, subst}
use Rattle.realm_audit.specs.Reading.{IsRefusal}
use Rattle.graph_answers.specs.AuditAnswer.{LawfulAnswers, TraceAnswers}
use Rattle.program_io.proofs.Public.{answered_by}
use Rattle.graph_answers.proofs.AuditAnswers.{lawful_trace, trace_of, no_trace_answered}
use Rattle.graph_answers.proofs.auditing.audit_trace.Goals as goal

pub returns-in-Ok-clause-read : goal.returns-in-Ok-clause-read
returns-in-Ok-clause-read g c =
    let back = c.args.back.now in
    let graph = c.args.checked.now.graph in
    let trace = c.in-Ok.trace in
    answered_by (LawfulAnswers graph trace) (TraceAnswers graph c.args.lines back) _ _ c.judge_trace.result (lawful_trace graph c.args.lines back trace (trace_of c.graph-graph.result.now graph back trace c.graph-graph.ensures.graph c.in-Ok.ensures.text c.in-Ok.ensures.lines)) c.judge_trace.ensures.judged

pub returns-in-Err-Line-clause-read : goal.returns-in-Err-Line-clause-read
returns-in-Err-Line-clause-read g c =
    no_trace_answered c.graph-graph.result.now c.args.checked.now.graph c.args.lines c.args.back.now c.in-Err-Line.number _ _ _ c.put_no_trace.result c.graph-graph.ensures.graph (subst (λ w. IsRefusal c.graph-graph.result.now c.args.back.now w) c.in-Err-Line.field-0-is c.in-Err-Line.ensures.refusal) (sym c.in-Err-Line.number-is) c.put_no_trace.ensures
