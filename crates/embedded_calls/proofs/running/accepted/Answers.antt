use Rattle.std.proofs.Common.{sym, subst}
use Rattle.graph_meaning.specs.Rules.{Accepted}
use Rattle.embedded_calls.proofs.CallAccepted.{call_accepted}
use Rattle.embedded_calls.proofs.running.accepted.Goals as goal

pub returns-in-Err-clause-refused : goal.returns-in-Err-clause-refused
returns-in-Err-clause-refused c = c.failure_of.ensures (c.in-Err.ensures.complete (subst Accepted (sym c.in_ok-call_graph.ensures.graph) call_accepted))
