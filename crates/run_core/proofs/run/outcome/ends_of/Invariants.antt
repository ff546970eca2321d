use Rattle.std.proofs.Common.{◌≡◌, ◌≤◌, length, map, take, vec_len}
use Rattle.std.specs.Vec.{vec_capacity}
use Rattle.run_state.specs.Run.{end_so_far}
use Rattle.run_lists.specs.Stages.{shown_stage}
use Rattle.run_parts.specs.declared.progress.Progress.{Progress}
use Rattle.run_core.proofs.run.outcome.ends_of.Given as goal

abbrev pub invariant-loop-progress : goal.invariant-loop-progress
invariant-loop-progress l = record {
  so_far : l.ends.items ≡ map (λ (p : Progress). end_so_far (shown_stage p)) (take l.progress-index l.stages);
  number : vec_len l.ends ≡ l.progress-index;
  room : length l.stages ≤ vec_capacity l.ends;
}
