use Rattle.explain_graph.proofs.reasons.explain_topmost.Goals as goal

pub unreachable-requires : goal.unreachable-requires
unreachable-requires c = c.in_ok-pair.ensures.topmost.here (λ low conflict. absurd (c.in_ok-met.ensures.none c.in-None.is conflict))
