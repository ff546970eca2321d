use Rattle.std.proofs.Common.{◌≡◌, ◌+◌, subst}
use Rattle.realm_audit.specs.Reading.{IsRefusal}
use Rattle.graph_answers.proofs.AuditAnswers.{trace_of}
use Rattle.realm_c.proofs.Auditing.{found_says, no_trace_of}
use Rattle.realm_c.proofs.audit.audit_behind.Goals as goal

pub returns-in-Ok : goal.returns-in-Ok
returns-in-Ok c =
    let g = c.args.checked.now.graph in
    let trace = c.in-Ok.trace in
    record { says = found_says g c.args.lines c.args.back.now trace (trace_of c.graph.result.now g c.args.back.now trace c.graph.ensures.graph c.in-Ok.ensures.text c.in-Ok.ensures.lines) c.audit_trace.result c.audit_trace.ensures }

pub returns-in-Err-Line : goal.returns-in-Err-Line
returns-in-Err-Line c =
    let k = c.graph.result.now in
    let number = c.in-Err-Line.number in
    let r = subst (λ w. IsRefusal k c.args.back.now w) c.in-Err-Line.field-0-is c.in-Err-Line.ensures.refusal in
    let counted : c.number_behind.result ≡ c.args.lines + number = cc in
    record { says = no_trace_of k c.args.checked.now.graph c.args.lines c.args.back.now number c.number_behind.result c.graph.ensures.graph r.0 r.1 counted }
