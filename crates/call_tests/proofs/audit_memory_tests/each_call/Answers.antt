use Rattle.std.proofs.Common.{◌<◌, length, subst}
use Rattle.graph_terms.specs.Graph.{GraphValue}
use Rattle.call_tests.proofs.audit_memory_tests.each_call.Goals as goal

pub audits-requires : goal.audits-requires
audits-requires c = λ k i e. subst (λ (g : GraphValue). i < length g.lines) c.graph.ensures.graph (c.in-Ok-read_trace.ensures.lines k i e)
