use Rattle.std.proofs.Common.{◌≤◌, take}
use Rattle.race_pairs.specs.Fresh.{AreBetween}
use Rattle.race_pairs.proofs.fresh.end_behind.Given as goal

abbrev pub invariant-loop-interval : goal.invariant-loop-interval
invariant-loop-interval l = record {
  rise : l.start ≤ l.end;
  between : AreBetween (take l.interval-index l.intervals) l.start l.end;
}
