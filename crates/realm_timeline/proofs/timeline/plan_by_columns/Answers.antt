use Rattle.std.proofs.Common.{◌≡◌, ◌<◌, ℕ, length, refl, sym, subst}
use Rattle.std.specs.Prelude.{None}
use Rattle.graph_terms.specs.Graph.{GraphValue}
use Rattle.graph_meaning.specs.Path.{Reached}
use Rattle.realm_timeline.specs.Plan.{slot_at}
use Rattle.realm_timeline.specs.Columns.{AreApart}
use Rattle.realm_timeline.proofs.TotalFacts.{critical_lines}
use Rattle.realm_timeline.proofs.timeline.plan_by_columns.Goals as goal

pub returns-clause-reached : goal.returns-clause-reached
returns-clause-reached c = subst (λ (h : GraphValue). (i : ℕ) → i < length h.lines → slot_at c.in_ok-timeline.timeline.plan i ≡ None → Reached h i) c.graph-graph.ensures.graph
    (subst (λ xs. (i : ℕ) → i < length c.graph-graph.result.now.lines → slot_at xs i ≡ None → Reached c.graph-graph.result.now i) (sym c.in_ok-timeline.ensures.plan) c.in_ok-simulation.ensures.reached)

pub returns-clause-apart : goal.returns-clause-apart
returns-clause-apart c = subst (λ h. AreApart h c.in_ok-timeline.timeline.plan) c.graph-graph.ensures.graph
    (subst (AreApart c.graph-graph.result.now) (sym c.in_ok-timeline.ensures.plan) (c.in_ok-simulation.ensures.apart refl))

pub returns-clause-lines : goal.returns-clause-lines
returns-clause-lines c = critical_lines c.args.checked.now.graph c.graph-graph.result.now c.in_ok-timeline.timeline.critical c.graph-graph.ensures.graph c.in_ok-timeline.ensures.critical
