use Rattle.std.proofs.Common.{◌≡◌, length}
use Rattle.realm_timeline.specs.State.{state_of, HasStartedAll, undone}
use Rattle.realm_timeline.proofs.simulation.Simulation.of_all_lines.Given as goal

abbrev pub invariant-loop-next : goal.invariant-loop-next
invariant-loop-next l = record {
  started_all : HasStartedAll l.graph l.processors (state_of l.simulation);
  by_columns : l.simulation.by_columns ≡ l.by_columns;
  count : length l.simulation.running.items ≡ l.processors;
}

abbrev pub decreases-loop-next : goal.decreases-loop-next
decreases-loop-next l = undone l.simulation.done.items (length l.graph.lines)
