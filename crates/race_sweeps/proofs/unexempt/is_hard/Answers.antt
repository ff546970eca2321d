use Rattle.std.proofs.Common.{inl, inr, ap}
use Rattle.graph_terms.specs.Access.{is_reduction}
use Rattle.race_sweeps.proofs.unexempt.is_hard.Goals as goal

pub returns-in-Sum : goal.returns-in-Sum
returns-in-Sum c h = inr (elim c.in-Sum.is [ inl e ↦ ap is_reduction e | inr (inl e) ↦ ap is_reduction e | inr (inr e) ↦ ap is_reduction e ], c.is_free.ensures h)
