use Rattle.std.proofs.Common.{◌∙◌, false, replicate, ap, refl, arith}
use Rattle.std.specs.Prelude.{None}
use Rattle.realm_timeline.specs.Queue.{no_queue}
use Rattle.realm_timeline.specs.State.{State, state_of}
use Rattle.realm_timeline.specs.Steps.{first_edges}
use Rattle.realm_timeline.proofs.LoopFacts.{all_counted}
use Rattle.realm_timeline.proofs.StartFacts.{IsFresh, fresh_consistent, fresh_begins, fresh_counted, offer_waits, offer_counted, length_first_edges}
use Rattle.realm_timeline.proofs.simulation.Simulation.new.Goals as goal

pub count_down-requires-clause-waits : goal.count_down-requires-clause-waits
count_down-requires-clause-waits c = offer_waits c.args.graph.now c.args.processors (state_of c.loop-line.simulation) c.loop-line.line c.loop-line.invariant.consistent (omega (arith, c.loop-line-test.true))

pub loop-line-preserved : goal.loop-line-preserved
loop-line-preserved c = record {
  by_columns = c.in_ok-count_down.ensures.by_columns ∙ c.loop-line.invariant.by_columns;
  fresh = fresh_counted c.args.graph.now c.args.processors (state_of c.loop-line.simulation) (state_of c.count_down.new.self) c.loop-line.line c.loop-line.invariant.fresh c.in_ok-count_down.ensures;
  consistent = offer_counted c.args.graph.now c.args.processors (state_of c.loop-line.simulation) (state_of c.count_down.new.self) c.loop-line.line c.loop-line.invariant.consistent (omega (arith, c.loop-line-test.true)) c.in_ok-count_down.ensures;
}

pub returns-clause-simulation : goal.returns-clause-simulation
returns-clause-simulation c = fresh_begins c.args.graph.now c.args.processors (state_of c.loop-line.simulation) c.loop-line.invariant.fresh
    (all_counted c.args.graph.now c.args.processors (state_of c.loop-line.simulation) (first_edges c.args.graph.now) c.loop-line.line c.loop-line.invariant.consistent (omega (arith, length_first_edges c.args.graph.now)))

pub loop-line-init : goal.loop-line-init
loop-line-init c =
    let s : State = record {
      by_columns = c.args.by_columns;
      time = 0;
      slots = c.in_ok-filled.field-0.items;
      order = c.new.result.items;
      done = c.in_ok-filled-2.field-0.items;
      left = c.in_ok-first_counts.field-0.items;
      queues = c.in_ok-empty_queues.field-0.items;
      running = c.in_ok-filled-3.field-0.items;
    } in
    let f : IsFresh c.args.graph.now c.args.processors s = record {
      time = refl;
      slots = c.in_ok-filled.ensures.items ∙ ap (λ n. replicate n None) c.lines-lines.ensures.number;
      order = c.new.ensures.items;
      done = c.in_ok-filled-2.ensures.items ∙ ap (λ n. replicate n false) c.lines-lines.ensures.number;
      running = c.in_ok-filled-3.ensures.items;
    } in
    record {
      by_columns = refl;
      fresh = f;
      consistent = fresh_consistent c.args.graph.now c.args.processors s f c.lines-lines.ensures.is_graph c.in_ok-first_counts.ensures.count c.in_ok-first_counts.ensures.counts (c.in_ok-empty_queues.ensures ∙ ap (λ n. replicate n no_queue) c.count_of_queues.ensures.count);
    }
