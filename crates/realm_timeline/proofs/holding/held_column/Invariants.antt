use Rattle.realm_timeline.proofs.HoldingFacts.{FirstUnheld}
use Rattle.realm_timeline.proofs.holding.held_column.Given as goal

abbrev pub invariant-loop-k : goal.invariant-loop-k
invariant-loop-k l = FirstUnheld l.graph l.queues l.line l.k
