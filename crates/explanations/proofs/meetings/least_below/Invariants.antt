use Rattle.std.specs.Prelude.{slice_index}
use Rattle.explanations.specs.Meetings.{IsLeastBelow}
use Rattle.explanations.proofs.meetings.least_below.Given as goal

abbrev pub invariant-loop-line : goal.invariant-loop-line
invariant-loop-line l = IsLeastBelow (slice_index l.ones) (slice_index l.others) l.line l.best
