use Rattle.std.proofs.Common.{◌≡◌, ◌≤◌, ◌<◌, ℕ, true, length}
use Rattle.std.specs.Prelude.{Some, slice_get}
use Rattle.std.specs.Vec.{vec_capacity}
use Rattle.basics.specs.Lists.{count_below}
use Rattle.run_core.specs.Resumed.{over_at, stage_is_over}
use Rattle.run_parts.specs.declared.states.LineState.{LineState}
use Rattle.run_core.proofs.run.resume.trace_of.Given as goal

abbrev pub invariant-loop-line : goal.invariant-loop-line
invariant-loop-line l = record {
  count : length l.trace.items ≡ count_below (over_at l.lines) (length l.lines);
  wide : vec_capacity l.initial.trace ≤ vec_capacity l.trace;
  at : (i : ℕ) (s : LineState) → i < l.line → slice_get l.lines i ≡ Some s → stage_is_over s.stage ≡ true → slice_get l.trace.items s.time ≡ Some i;
}
