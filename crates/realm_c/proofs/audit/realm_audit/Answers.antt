use Rattle.std.proofs.Common.{inl, inr, ◌∙◌}
use Rattle.realm_audit.specs.Parts.{graph_bytes}
use Rattle.realm_c.proofs.Auditing.{lawful_is_found}
use Rattle.realm_c.proofs.audit.realm_audit.Goals as goal

pub returns-clause-audited : goal.returns-clause-audited
returns-clause-audited c = λ e. (c.audit_text-found.result, c.audit_text-found.ensures.says, c.status.ensures.number, c.verdict.ensures)

pub returns-clause-complete : goal.returns-clause-complete
returns-clause-complete c = λ g trace short t acc h l.
    let bytes = c.args.text.now in
    elim (lawful_is_found bytes (c.bytes_have_one_reading.ensures (graph_bytes bytes)) c.text_tells_traces_apart.ensures c.audit_text-found.result c.audit_text-found.ensures.says g trace t acc h l)
    [ inl x ↦ inl (c.status.ensures.number ∙ x) | inr x ↦ inr (c.status.ensures.number ∙ x) ]
