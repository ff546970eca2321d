use Rattle.std.proofs.Common.{◌≡◌, ◌≤◌, length, take, vec_len}
use Rattle.std.specs.Vec.{vec_capacity}
use Rattle.run_lists.specs.Events.{issued_handles}
use Rattle.run_lists.proofs.events.handles_of.Given as goal

abbrev pub invariant-loop-state : goal.invariant-loop-state
invariant-loop-state l = record {
  so_far : l.handles.items ≡ issued_handles (take l.state-index l.lines);
  few : vec_len l.handles ≤ l.state-index;
  room : length l.lines ≤ vec_capacity l.handles;
}
