use Rattle.run_core.proofs.IssueFacts.{woken_core, events_keep}
use Rattle.run_core.proofs.RestFacts.{with_core}
use Rattle.run_core.proofs.run.Core.next_woken.Goals as goal

pub invariant_of-self : goal.invariant_of-self
invariant_of-self c =
    with_core c.self.invariant (woken_core _ _ _ _ c.self.inside.events c.next_woken.new.self c.next_woken.result c.self.invariant.core c.next_woken.ensures.handles c.next_woken.ensures.some c.next_woken.ensures.none)

pub returns-clause-works : goal.returns-clause-works
returns-clause-works c = events_keep _ _ _ _ c.self.inside.events c.next_woken.new.self c.args.self.now c.self.view_is
