use Rattle.realm_audit.proofs.FaultFacts.{IsLeastTo}
use Rattle.realm_audit.proofs.faults.late_source.Given as goal

abbrev pub invariant-loop-edge : goal.invariant-loop-edge
invariant-loop-edge l = IsLeastTo l.graph l.prefix.stands.items l.edges l.edge-index l.least
