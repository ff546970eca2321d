use Rattle.std.proofs.Common.{rules, ◌≢◌}
use Rattle.realm_audit.specs.declared.refusal.AuditRefusal.TheVariants.{NoMemory}
use Rattle.graph_answers.proofs.AuditAnswers.{unlawful_answered, no_want}
use Rattle.graph_answers.proofs.auditing.judge_trace.Goals as goal

pub returns : goal.returns
returns g c =
    let a_fault : c.in-Err.why ≢ NoMemory = search rules in
    record {
      judged = unlawful_answered c.graph-graph.result.now c.args.checked.now.graph c.args.trace.now c.in-Err.why _ _ c.put_fault.result c.graph-graph.ensures.graph a_fault c.in-Err.ensures.refused (c.in-Err.ensures.unlawful a_fault) c.put_fault.ensures;
      no_memory = λ e. absurd (no_want c.graph-graph.result.now c.args.trace.now c.in-Err.why _ _ c.put_fault.result a_fault c.put_fault.ensures e);
    }
