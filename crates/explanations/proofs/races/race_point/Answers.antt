use Rattle.explanations.proofs.races.race_point.Goals as goal

pub unreachable-requires : goal.unreachable-requires
unreachable-requires c = c.requires.race.5.here (λ before conflict. absurd (c.in_ok-shared.ensures.none c.in-None.is conflict))
