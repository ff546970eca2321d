use Rattle.std.proofs.Common.{◌≡◌, ◌≤◌, map}
use Rattle.basics.specs.Lists.{count_below}
use Rattle.run_state.specs.Run.{stage_at}
use Rattle.run_core.specs.Counts.{has_stage}
use Rattle.run_lists.specs.Stages.{shown_stage}
use Rattle.run_core.proofs.run.counts.count_at.Given as goal

abbrev pub invariant-loop-line : goal.invariant-loop-line
invariant-loop-line l = record {
  so_far : l.count ≡ count_below (λ i. has_stage l.stage (stage_at (map shown_stage l.stages) i)) l.line;
  few : l.count ≤ l.line;
}
