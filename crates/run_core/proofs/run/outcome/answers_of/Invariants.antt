use Rattle.std.proofs.Common.{◌≡◌, ◌≤◌, length, vec_len}
use Rattle.std.specs.Vec.{vec_capacity}
use Rattle.run_core.proofs.ListsOfLines.{AnswersSoFar}
use Rattle.run_core.proofs.run.outcome.answers_of.Given as goal

abbrev pub invariant-loop-line : goal.invariant-loop-line
invariant-loop-line l = record {
  so_far : AnswersSoFar l.events.handles l.events.table l.line l.answers.items;
  number : vec_len l.answers ≡ l.line;
  room : length l.stages ≤ vec_capacity l.answers;
}
