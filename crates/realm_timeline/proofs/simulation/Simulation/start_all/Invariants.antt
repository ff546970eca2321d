use Rattle.std.proofs.Common.{◌≡◌, length}
use Rattle.realm_timeline.specs.State.{state_of, IsSimulation}
use Rattle.basics.specs.Lists.{count_below}
use Rattle.realm_timeline.specs.Queue.{is_open}
use Rattle.realm_timeline.proofs.simulation.Simulation.start_all.Given as goal

abbrev pub invariant-loop-place : goal.invariant-loop-place
invariant-loop-place l = record {
  simulation : IsSimulation l.graph (length l.fn.self.running.items) (state_of l.self);
  by_columns : l.self.by_columns ≡ l.fn.self.by_columns;
  done : l.self.done.items ≡ l.fn.self.done.items;
  count : length l.self.running.items ≡ length l.fn.self.running.items;
}

abbrev pub decreases-loop-place : goal.decreases-loop-place
decreases-loop-place l = count_below (is_open l.self.queues.items) (length l.graph.lines)
