use Rattle.std.proofs.Common.{◌∙◌}
use Rattle.realm_timeline.specs.State.{state_of}
use Rattle.realm_timeline.proofs.LoopFacts.{processor_below}
use Rattle.realm_timeline.proofs.FinishFacts.{next_is_soonest}
use Rattle.realm_timeline.proofs.FinalFacts.{plan_is_whole, plan_is_greedy, plan_is_greedy_by_columns, others_are_reached, order_is}
use Rattle.realm_timeline.proofs.simulation.Simulation.of_all_lines.Goals as goal

pub next_finish-requires-clause-slots : goal.next_finish-requires-clause-slots
next_finish-requires-clause-slots c = λ q k runs. (let x = (c.loop-next.invariant.started_all.simulation.consistent.runs q k runs).1 in (x.0, x.1))

pub finish_all-requires-clause-next : goal.finish_all-requires-clause-next
finish_all-requires-clause-next c = next_is_soonest c.args.graph.now c.args.processors (state_of c.loop-next.simulation) c.in-Some.next c.loop-next.invariant.started_all.simulation.consistent c.in-Some.ensures

pub returns-clause-plan : goal.returns-clause-plan
returns-clause-plan c = plan_is_whole c.args.graph.now c.lines.ensures.is_graph c.requires.accepted c.args.processors (state_of c.loop-next.simulation) c.requires.some c.loop-next.invariant.started_all
    (λ q k runs. c.in_default.ensures q k (processor_below c.loop-next.simulation.running.items q k runs) runs)

pub returns-clause-apart : goal.returns-clause-apart
returns-clause-apart c = λ on. c.loop-next.invariant.started_all.simulation.up_to_now.apart (c.loop-next.invariant.by_columns ∙ on)

pub returns-clause-greedy_by_columns : goal.returns-clause-greedy_by_columns
returns-clause-greedy_by_columns c = λ on. plan_is_greedy_by_columns c.args.graph.now c.lines.ensures.is_graph c.requires.accepted c.args.processors (state_of c.loop-next.simulation) c.requires.some c.loop-next.invariant.started_all
    (λ q k runs. c.in_default.ensures q k (processor_below c.loop-next.simulation.running.items q k runs) runs) (c.loop-next.invariant.by_columns ∙ on)

pub returns-clause-greedy : goal.returns-clause-greedy
returns-clause-greedy c = λ off. plan_is_greedy c.args.graph.now c.lines.ensures.is_graph c.requires.accepted c.args.processors (state_of c.loop-next.simulation) c.requires.some c.loop-next.invariant.started_all
    (λ q k runs. c.in_default.ensures q k (processor_below c.loop-next.simulation.running.items q k runs) runs) (c.loop-next.invariant.by_columns ∙ off)

pub returns-clause-order : goal.returns-clause-order
returns-clause-order c = order_is c.args.graph.now c.lines.ensures.is_graph c.requires.accepted c.args.processors (state_of c.loop-next.simulation) c.requires.some c.loop-next.invariant.started_all
    (λ q k runs. c.in_default.ensures q k (processor_below c.loop-next.simulation.running.items q k runs) runs)

pub returns-clause-reached : goal.returns-clause-reached
returns-clause-reached c = others_are_reached c.args.graph.now c.lines.ensures.is_graph c.requires.accepted c.args.processors (state_of c.loop-next.simulation) c.requires.some c.loop-next.invariant.started_all
    (λ q k runs. c.in_default.ensures q k (processor_below c.loop-next.simulation.running.items q k runs) runs)
