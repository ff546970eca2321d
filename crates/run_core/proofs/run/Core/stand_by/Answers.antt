use Rattle.run_core.proofs.IssueFacts.{source_pending, stood_core, events_keep}
use Rattle.run_core.proofs.RestFacts.{with_core}
use Rattle.run_core.proofs.run.Core.stand_by.Goals as goal

pub stand_by-requires-clause-pending : goal.stand_by-requires-clause-pending
stand_by-requires-clause-pending c = source_pending _ c.args.self.now c.self.view_is c.self.invariant.core c.args.i c.args.source c.requires.waits

pub invariant_of-self : goal.invariant_of-self
invariant_of-self c =
    let s = c.self.inside in
    with_core c.self.invariant (stood_core _ _ _ _ s.events c.stand_by.new.self c.args.self.now c.args.i c.args.source c.self.view_is c.self.invariant.core c.requires.waits c.stand_by.ensures.answers c.stand_by.ensures.either)

pub returns-clause-works : goal.returns-clause-works
returns-clause-works c = events_keep _ _ _ _ c.self.inside.events c.stand_by.new.self c.args.self.now c.self.view_is
