use Rattle.std.proofs.Common.{◌≡◌, ◌+◌, ◌≤◌, length}
use Rattle.graph_words.specs.Words.{pieces}
use Rattle.told_names.specs.Named.{given_names, first_place}
use Rattle.told_names.proofs.named.place_among.Given as goal

abbrev pub invariant-loop-line : goal.invariant-loop-line
invariant-loop-line l = record {
  few : l.at + length l.rest ≤ length l.bytes;
  same : first_place l.word 0 (given_names (pieces 10 l.bytes)) ≡ first_place l.word l.at (given_names (pieces 10 l.rest));
}

abbrev pub decreases-loop-line : goal.decreases-loop-line
decreases-loop-line l = length l.rest
