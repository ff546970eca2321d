use Rattle.std.proofs.Common.{◌∙◌, length, sym, subst}
use Rattle.realm_timeline.specs.State.{state_of, IsConsistent}
use Rattle.realm_timeline.proofs.LoopFacts.{running_below, processor_below, next_waits, next_below, next_counted}
use Rattle.realm_timeline.proofs.ConsistentFinish.{finish_consistent}
use Rattle.realm_timeline.proofs.simulation.Simulation.finish.Goals as goal

pub mark_finished-requires-clause-processor : goal.mark_finished-requires-clause-processor
mark_finished-requires-clause-processor c = processor_below c.args.self.now.running.items c.args.processor c.args.line c.requires.runs

pub mark_finished-requires-clause-line : goal.mark_finished-requires-clause-line
mark_finished-requires-clause-line c = running_below c.args.graph.now (length c.args.self.now.running.items) (state_of c.args.self.now) _ c.args.processor c.args.line c.requires.consistent c.requires.runs

pub edges_from-edges-requires : goal.edges_from-edges-requires
edges_from-edges-requires c = running_below c.args.graph.now (length c.args.self.now.running.items) (state_of c.args.self.now) _ c.args.processor c.args.line c.requires.consistent c.requires.runs

pub loop-edge-init : goal.loop-edge-init
loop-edge-init c = record {
  consistent = subst (IsConsistent c.args.graph.now (length c.args.self.now.running.items) (state_of c.mark_finished.new.self)) (sym c.edges_from-edges.ensures)
      (finish_consistent c.args.graph.now c.lines.ensures.is_graph c.requires.accepted (length c.args.self.now.running.items) (state_of c.args.self.now) (state_of c.mark_finished.new.self) c.args.processor c.args.line c.requires.consistent c.requires.runs c.mark_finished.ensures);
  by_columns = c.mark_finished.ensures.by_columns;
  time = c.mark_finished.ensures.time;
  slots = c.mark_finished.ensures.slots;
  running = c.mark_finished.ensures.running;
  done = c.mark_finished.ensures.done;
}

pub count_down-requires-clause-line : goal.count_down-requires-clause-line
count_down-requires-clause-line c = next_below c.args.graph.now (length c.args.self.now.running.items) (state_of c.loop-edge.self) c.edges_from-edges.result.now c.loop-edge.edge-index c.loop-edge.invariant.consistent c.loop-edge-test.true

pub count_down-requires-clause-waits : goal.count_down-requires-clause-waits
count_down-requires-clause-waits c = next_waits c.args.graph.now (length c.args.self.now.running.items) (state_of c.loop-edge.self) c.edges_from-edges.result.now c.loop-edge.edge-index c.loop-edge.invariant.consistent c.loop-edge-test.true

pub loop-edge-preserved : goal.loop-edge-preserved
loop-edge-preserved c = record {
  consistent = next_counted c.args.graph.now (length c.args.self.now.running.items) (state_of c.loop-edge.self) (state_of c.count_down.new.self) c.edges_from-edges.result.now c.loop-edge.edge-index c.loop-edge.invariant.consistent c.loop-edge-test.true c.in_ok-count_down.ensures;
  by_columns = c.in_ok-count_down.ensures.by_columns ∙ c.loop-edge.invariant.by_columns;
  time = c.in_ok-count_down.ensures.time ∙ c.loop-edge.invariant.time;
  slots = c.in_ok-count_down.ensures.slots ∙ c.loop-edge.invariant.slots;
  running = c.in_ok-count_down.ensures.running ∙ c.loop-edge.invariant.running;
  done = c.in_ok-count_down.ensures.done ∙ c.loop-edge.invariant.done;
}
