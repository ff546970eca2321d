use Rattle.realm_timeline.specs.ChainCosts.{AreChainCosts}
use Rattle.realm_timeline.proofs.critical.ChainCosts.of_lines.Given as goal

abbrev pub invariant-loop-place : goal.invariant-loop-place
invariant-loop-place l = AreChainCosts l.graph l.order l.chain_costs.costs.items l.chain_costs.before.items l.place
