use Rattle.std.proofs.Common.{◌≡◌, subst, ap, ◌∙◌}
use Rattle.realm_audit.specs.Parts.{newlines, graph_bytes, trace_bytes}
use Rattle.graph_words.specs.Text.{GraphText}
use Rattle.realm_c.specs.Audits.{TraceSays}
use Rattle.c_answers.specs.Refusals.{IsCheckRefusal}
use Rattle.realm_c.proofs.Auditing.{text_says}
use Rattle.realm_c.proofs.audit.audit_text.Goals as goal

pub returns-in-Ok : goal.returns-in-Ok
returns-in-Ok c =
    let g = c.in-Ok.checked.graph in
    let x = c.in-Ok.ensures.text in
    let lines : c.newlines.result ≡ newlines (graph_bytes c.args.text.now) = c.newlines.ensures ∙ ap newlines c.parts.ensures.graph in
    record {
      says = text_says c.args.text.now g (subst (λ bytes. GraphText bytes g) c.parts.ensures.graph x.0) x.1 c.audit_behind.result
          (subst (λ n. TraceSays g n (trace_bytes c.args.text.now) c.audit_behind.result) lines (subst (λ bytes. TraceSays g c.newlines.result bytes c.audit_behind.result) c.parts.ensures.trace c.audit_behind.ensures.says));
    }

pub returns-in-Err : goal.returns-in-Err
returns-in-Err c = record { says = subst (λ bytes. IsCheckRefusal bytes c.in-Err.refusal) c.parts.ensures.graph c.in-Err.ensures.refused }
