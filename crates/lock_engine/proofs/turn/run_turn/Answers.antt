use Rattle.std.proofs.Common.{◌≡◌, ◌<◌, ℕ, Some, length, ◌∙◌, ap, subst}
use Rattle.std.specs.Prelude.{slice_get}
use Rattle.graph_terms.specs.Graph.{GraphValue}
use Rattle.graph_meaning.specs.Trace.{IsLawful, SectionsApart}
use Rattle.graph_meaning.specs.Evaluation.{outcome}
use Rattle.lock_engine.proofs.turn.run_turn.Goals as goal

pub returns-clause-lines : goal.returns-clause-lines
returns-clause-lines g c =
    subst (λ (h : GraphValue). (k i : ℕ) → slice_get c.outcome.result.trace k ≡ Some i → i < length h.lines)
    (c.finish.ensures.goes_on.graph ∙ (c.last_core-core.ensures.graph ∙ (c.turn.invariant.key ∙ c.turn.view_is))) c.outcome.ensures.lines

pub returns-clause-sections : goal.returns-clause-sections
returns-clause-sections g c =
    subst (λ (h : GraphValue). SectionsApart h c.outcome.result.trace)
    (c.finish.ensures.goes_on.graph ∙ (c.last_core-core.ensures.graph ∙ (c.turn.invariant.key ∙ c.turn.view_is))) (c.outcome.ensures.sections (c.finish.ensures.goes_on.hosted ∙ c.last_core-core.ensures.unhosted))

pub returns-clause-outcome : goal.returns-clause-outcome
returns-clause-outcome g c =
    c.outcome.ensures.outcome (c.finish.ensures.goes_on.hosted ∙ c.last_core-core.ensures.unhosted)
    ∙ ap (λ (h : GraphValue). outcome h c.outcome.result.trace) (c.finish.ensures.goes_on.graph ∙ (c.last_core-core.ensures.graph ∙ (c.turn.invariant.key ∙ c.turn.view_is)))

pub returns-clause-lawful : goal.returns-clause-lawful
returns-clause-lawful g c =
    subst (λ (h : GraphValue). IsLawful h c.outcome.result.trace)
    (c.finish.ensures.goes_on.graph ∙ (c.last_core-core.ensures.graph ∙ (c.turn.invariant.key ∙ c.turn.view_is))) (c.outcome.ensures.lawful (c.finish.ensures.goes_on.hosted ∙ c.last_core-core.ensures.unhosted))
