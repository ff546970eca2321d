use Rattle.std.proofs.Common.{◌≡◌, ◌<◌, ℕ, Some, length, ◌∙◌, ap, subst}
use Rattle.std.specs.Prelude.{slice_get}
use Rattle.graph_terms.specs.Graph.{GraphValue}
use Rattle.graph_meaning.specs.Evaluation.{outcome}
use Rattle.graph_meaning.specs.Trace.{IsLawful}
use Rattle.run_core.specs.Core.{CoreValue}
use Rattle.realm_top.proofs.running.run_alone.Goals as goal

pub returns-clause-outcome : goal.returns-clause-outcome
returns-clause-outcome c =
    let same = c.finish.ensures.goes_on.graph ∙ ap (λ (k : CoreValue). k.graph) c.in_ok-core.ensures.core in
    c.outcome.ensures.outcome (c.finish.ensures.goes_on.hosted ∙ ap (λ (k : CoreValue). k.hosted) c.in_ok-core.ensures.core)
    ∙ ap (λ (g : GraphValue). outcome g c.outcome.result.trace) same

pub returns-clause-lawful : goal.returns-clause-lawful
returns-clause-lawful c =
    let same = c.finish.ensures.goes_on.graph ∙ ap (λ (k : CoreValue). k.graph) c.in_ok-core.ensures.core in
    subst (λ (g : GraphValue). IsLawful g c.outcome.result.trace) same
    (c.outcome.ensures.lawful (c.finish.ensures.goes_on.hosted ∙ ap (λ (k : CoreValue). k.hosted) c.in_ok-core.ensures.core))

pub returns-clause-lines : goal.returns-clause-lines
returns-clause-lines c =
    let same = c.finish.ensures.goes_on.graph ∙ ap (λ (k : CoreValue). k.graph) c.in_ok-core.ensures.core in
    subst (λ (g : GraphValue). (k i : ℕ) → slice_get c.outcome.result.trace k ≡ Some i → i < length g.lines) same c.outcome.ensures.lines
