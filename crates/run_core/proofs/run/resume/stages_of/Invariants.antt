use Rattle.std.proofs.Common.{◌≡◌, ◌≤◌, length, map, take, vec_len}
use Rattle.std.specs.Vec.{vec_capacity}
use Rattle.run_core.specs.Resumed.{progress_for}
use Rattle.run_core.proofs.run.resume.stages_of.Given as goal

abbrev pub invariant-loop-state : goal.invariant-loop-state
invariant-loop-state l = record {
  so_far : l.stages.items ≡ map progress_for (take l.state-index l.lines);
  number : vec_len l.stages ≡ l.state-index;
  room : length l.lines ≤ vec_capacity l.stages;
}
