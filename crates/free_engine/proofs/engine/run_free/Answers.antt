use Rattle.std.proofs.Common.{◌≡◌, ◌<◌, ℕ, Some, length, ◌∙◌, ap, subst}
use Rattle.std.specs.Prelude.{slice_get}
use Rattle.graph_terms.specs.Graph.{GraphValue}
use Rattle.graph_meaning.specs.Evaluation.{outcome}
use Rattle.graph_meaning.specs.Trace.{IsLawful, SectionsApart}
use Rattle.run_words.proofs.Public.{all_still}
use Rattle.free_engine.proofs.engine.run_free.Goals as goal

pub core_of-core-requires-clause-all : goal.core_of-core-requires-clause-all
core_of-core-requires-clause-all t c = all_still c.args.seat c.run_workers-seat.result c.requires.all c.run_workers-seat.ensures.back

pub returns-clause-lines : goal.returns-clause-lines
returns-clause-lines t c =
    subst (λ (h : GraphValue). (k i : ℕ) → slice_get c.outcome.result.trace k ≡ Some i → i < length h.lines)
    (c.finish.ensures.goes_on.graph ∙ c.core_of-core.ensures.graph) c.outcome.ensures.lines

pub returns-clause-outcome : goal.returns-clause-outcome
returns-clause-outcome t c =
    c.outcome.ensures.outcome (c.finish.ensures.goes_on.hosted ∙ c.core_of-core.ensures.unhosted)
    ∙ ap (λ (h : GraphValue). outcome h c.outcome.result.trace) (c.finish.ensures.goes_on.graph ∙ c.core_of-core.ensures.graph)

pub returns-clause-lawful : goal.returns-clause-lawful
returns-clause-lawful t c =
    subst (λ (h : GraphValue). IsLawful h c.outcome.result.trace) (c.finish.ensures.goes_on.graph ∙ c.core_of-core.ensures.graph)
    (c.outcome.ensures.lawful (c.finish.ensures.goes_on.hosted ∙ c.core_of-core.ensures.unhosted))

pub returns-clause-sections : goal.returns-clause-sections
returns-clause-sections t c =
    subst (λ (h : GraphValue). SectionsApart h c.outcome.result.trace) (c.finish.ensures.goes_on.graph ∙ c.core_of-core.ensures.graph)
    (c.outcome.ensures.sections (c.finish.ensures.goes_on.hosted ∙ c.core_of-core.ensures.unhosted))
