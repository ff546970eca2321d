use Rattle.std.proofs.Common.{◌≡◌, Some, sym, ap, ◌∙◌}
use Rattle.index_spaces.specs.declared.space.SpaceFault.TheVariants.{NoMemory}
use Rattle.index_spaces.proofs.FaultFacts.{space_fault-memory}
use Rattle.index_spaces.proofs.space.Space.within.Goals as goal

pub returns-in-Some-clause-memory : goal.returns-in-Some-clause-memory
returns-in-Some-clause-memory c e =
    let same : c.in-Some.fault ≡ NoMemory = cc in
    absurd (space_fault-memory c.args.limits c.args.pairs.now (sym c.fault_of.ensures.first ∙ c.in-Some.is ∙ ap Some same))
