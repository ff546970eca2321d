use Rattle.std.proofs.Common.{◌≡◌, ◌<◌, ℕ, length, refl, sym, subst}
use Rattle.std.specs.Prelude.{None}
use Rattle.graph_terms.specs.Graph.{GraphValue}
use Rattle.graph_meaning.specs.Path.{Reached}
use Rattle.realm_timeline.specs.Plan.{slot_at}
use Rattle.realm_timeline.proofs.TotalFacts.{at_least, at_most, critical_lines}
use Rattle.realm_timeline.proofs.timeline.plan.Goals as goal

pub returns-clause-at_least : goal.returns-clause-at_least
returns-clause-at_least c = at_least c.args.checked.now.graph c.graph-graph.result.now c.in_ok-timeline.timeline.critical c.in_ok-timeline.timeline.critical_cost c.graph-graph.ensures.graph c.in_ok-timeline.ensures.critical c.in_ok-timeline.ensures.critical_cost

pub returns-clause-at_most : goal.returns-clause-at_most
returns-clause-at_most c = at_most c.args.checked.now.graph c.graph-graph.result.now c.args.processors c.in_ok-simulation.simulation.slots.items c.in_ok-timeline.timeline.critical c.in_ok-timeline.timeline.span c.in_ok-timeline.timeline.total c.in_ok-timeline.timeline.critical_cost
    c.graph-graph.ensures.graph c.requires.some c.in_ok-simulation.ensures.plan c.in_ok-simulation.ensures.valid (c.in_ok-simulation.ensures.greedy refl) c.in_ok-timeline.ensures.critical
    c.in_ok-timeline.ensures.length c.in_ok-timeline.ensures.total c.in_ok-timeline.ensures.critical_cost

pub returns-clause-reached : goal.returns-clause-reached
returns-clause-reached c = subst (λ (h : GraphValue). (i : ℕ) → i < length h.lines → slot_at c.in_ok-timeline.timeline.plan i ≡ None → Reached h i) c.graph-graph.ensures.graph
    (subst (λ xs. (i : ℕ) → i < length c.graph-graph.result.now.lines → slot_at xs i ≡ None → Reached c.graph-graph.result.now i) (sym c.in_ok-timeline.ensures.plan) c.in_ok-simulation.ensures.reached)

pub returns-clause-lines : goal.returns-clause-lines
returns-clause-lines c = critical_lines c.args.checked.now.graph c.graph-graph.result.now c.in_ok-timeline.timeline.critical c.graph-graph.ensures.graph c.in_ok-timeline.ensures.critical
