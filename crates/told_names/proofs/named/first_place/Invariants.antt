use Rattle.std.proofs.Common.{◌≡◌, ◌+◌, ◌^◌, ◌<◌, length}
use Rattle.basics.specs.Words.{contents}
use Rattle.told_names.specs.Named.{first_place}
use Rattle.told_names.proofs.named.first_place.Given as goal

abbrev pub invariant-loop-rest : goal.invariant-loop-rest
invariant-loop-rest l = record {
  few : l.at + length l.rest < 2 ^ 64;
  same : first_place l.word l.number (contents l.names) ≡ first_place l.word l.at (contents l.rest);
}

abbrev pub decreases-loop-rest : goal.decreases-loop-rest
decreases-loop-rest l = length l.rest
