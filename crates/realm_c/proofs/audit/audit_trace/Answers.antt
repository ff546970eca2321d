use Rattle.std.proofs.Common.{rules, ◌≢◌}
use Rattle.realm_audit.specs.declared.refusal.AuditRefusal.TheVariants.{NoMemory}
use Rattle.realm_c.proofs.Auditing.{fault_of}
use Rattle.realm_c.proofs.audit.audit_trace.Goals as goal

pub returns : goal.returns
returns c =
    let a_fault : c.in-Err.why ≢ NoMemory = search rules in
    fault_of c.graph.result.now c.args.checked.now.graph c.args.trace.now c.in-Err.why c.graph.ensures.graph a_fault c.in-Err.ensures.refused c.in-Err.ensures.names (c.in-Err.ensures.unlawful a_fault)
