use Rattle.std.proofs.Common.{◌≡◌, ◌*◌, ◌≤◌, take}
use Rattle.index_spaces.specs.Space.{space_size}
use Rattle.refused_words.proofs.declared.point_count.Given as goal

abbrev pub invariant-loop-pair : goal.invariant-loop-pair
invariant-loop-pair l = record {
  sum : l.points ≡ space_size (take l.pair-index l.pairs);
  few : l.points ≤ 4294967296 * l.pair-index;
}
