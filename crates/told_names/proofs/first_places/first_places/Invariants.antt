use Rattle.std.proofs.Common.{◌+◌, ◌≤◌, length, drop}
use Rattle.basics.specs.Words.{contents}
use Rattle.told_names.specs.Places.{AreFirst}
use Rattle.told_names.proofs.first_places.first_places.Given as goal

abbrev pub invariant-loop-at : goal.invariant-loop-at
invariant-loop-at l = record {
  few : l.at ≤ length l.names;
  first : AreFirst l.places (l.number + l.at) (contents (drop l.at l.names));
}

abbrev pub decreases-loop-at : goal.decreases-loop-at
decreases-loop-at l = l.at
