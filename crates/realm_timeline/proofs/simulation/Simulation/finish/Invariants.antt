use Rattle.std.proofs.Common.{◌≡◌, length, drop, true}
use Rattle.std.specs.Prelude.{None, slice_set}
use Rattle.realm_timeline.specs.State.{state_of, IsConsistent}
use Rattle.realm_timeline.proofs.simulation.Simulation.finish.Given as goal

abbrev pub invariant-loop-edge : goal.invariant-loop-edge
invariant-loop-edge l = record {
  consistent : IsConsistent l.graph (length l.fn.self.running.items) (state_of l.self) (drop l.edge-index l.edges);
  by_columns : l.self.by_columns ≡ l.fn.self.by_columns;
  time : l.self.time ≡ l.fn.self.time;
  slots : l.self.slots.items ≡ l.fn.self.slots.items;
  running : l.self.running.items ≡ slice_set l.fn.self.running.items l.processor None;
  done : l.self.done.items ≡ slice_set l.fn.self.done.items l.line true;
}
