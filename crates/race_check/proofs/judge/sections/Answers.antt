use Rattle.std.proofs.Common.{sym, subst}
use Rattle.section_sweeps.specs.Found.{AreDoubted, AreSectionsFound}
use Rattle.race_check.proofs.judge.sections.Goals as goal

pub sections_by_rule-requires-clause-doubted : goal.sections_by_rule-requires-clause-doubted
sections_by_rule-requires-clause-doubted c =
    let g = c.args.graph.now in
    subst (λ xs. AreDoubted g xs) (sym c.as_slice.ensures.value) (subst (λ s. AreSectionsFound g s) c.in-Doubted.is c.in_ok-held.ensures).1
