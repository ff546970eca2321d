use Rattle.std.proofs.Common.{subst}
use Rattle.graph_reader.specs.Reading.{IsRefusal}
use Rattle.graph_answers.specs.Refused.{Refuses}
use Rattle.graph_answers.specs.AuditAnswer.{AuditAnswers, PartsAnswer}
use Rattle.program_io.proofs.Public.{answered_by}
use Rattle.graph_answers.proofs.AuditAnswers.{parts_audit, refused_audit}
use Rattle.graph_answers.proofs.auditing.answer_audit.Goals as goal

pub returns-in-Ok-clause-answered : goal.returns-in-Ok-clause-answered
returns-in-Ok-clause-answered g c =
    let bytes = c.args.bytes.now in
    let back = c.parts.result.1.now in
    answered_by (PartsAnswer c.in-Ok.graph c.newlines.result back) (AuditAnswers bytes) _ _ c.audit_graph.result
    (parts_audit bytes c.parts.result.0.now back c.newlines.result c.parts.ensures.graph c.newlines.ensures c.parts.ensures.trace c.requires.short c.in-Ok.graph c.in-Ok.ensures.text) c.audit_graph.ensures.settled

pub returns-in-Err-clause-answered : goal.returns-in-Err-clause-answered
returns-in-Err-clause-answered g c =
    let bytes = c.args.bytes.now in
    let front = c.parts.result.0.now in
    answered_by (Refuses front) (AuditAnswers bytes) _ _ c.refuse.result (refused_audit bytes front c.parts.ensures.graph c.requires.short)
    (c.refuse.ensures.refused front (λ number why e. subst (IsRefusal front) e c.in-Err.ensures.refusal))
