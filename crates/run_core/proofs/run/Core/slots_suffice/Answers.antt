use Rattle.std.proofs.Common.{subst}
use Rattle.graph_meaning.specs.Need.{IsNeed}
use Rattle.run_core.specs.Core.{CoreValue, IsCore}
use Rattle.run_core.proofs.SlotFacts.{free_slot}
use Rattle.run_core.proofs.run.Core.slots_suffice.Goals as goal

pub returns : goal.returns
returns c nothing none left = free_slot c.left_below_need.ensures c.args.self.now (subst IsCore c.self.view_is c.self.invariant.core) nothing none left
    c.need.result (subst (λ (v : CoreValue). IsNeed v.graph c.need.result) c.self.view_is c.need.ensures.need)
