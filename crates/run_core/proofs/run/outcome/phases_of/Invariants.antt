use Rattle.std.proofs.Common.{◌≡◌, ◌≤◌, length, map, vec_len}
use Rattle.std.specs.Vec.{vec_capacity}
use Rattle.basics.specs.Lists.{numbers_below}
use Rattle.run_lists.specs.Stages.{shown_stage}
use Rattle.run_core.specs.Answers.{phase_of_line}
use Rattle.run_core.proofs.run.outcome.phases_of.Given as goal

abbrev pub invariant-loop-line : goal.invariant-loop-line
invariant-loop-line l = record {
  so_far : l.phases.items ≡ map (phase_of_line l.graph (map shown_stage l.stages) l.values) (numbers_below l.line);
  number : vec_len l.phases ≡ l.line;
  room : length l.graph.lines ≤ vec_capacity l.phases;
}
