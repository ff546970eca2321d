use Rattle.std.proofs.Common.{◌≡◌, ◌≤◌, length}
use Rattle.std.specs.Vec.{vec_capacity}
use Rattle.basics.specs.Lists.{count_below}
use Rattle.run_core.specs.Resumed.{over_at}
use Rattle.run_core.proofs.run.resume.places_for.Given as goal

abbrev pub invariant-loop-line : goal.invariant-loop-line
invariant-loop-line l = record {
  count : length l.trace.items ≡ count_below (over_at l.lines) l.line;
  few : count_below (over_at l.lines) l.line ≤ l.line;
  room : length l.lines ≤ vec_capacity l.trace;
  wide : vec_capacity l.initial.trace ≤ vec_capacity l.trace;
}
