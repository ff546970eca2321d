use Rattle.realm_timeline.specs.ChainCosts.{IsTopOf}
use Rattle.realm_timeline.proofs.critical.ChainCosts.top.Given as goal

abbrev pub invariant-loop-line : goal.invariant-loop-line
invariant-loop-line l = IsTopOf l.self.costs.items l.line l.top
