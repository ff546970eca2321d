use Rattle.std.proofs.Common.{◌≤◌, ◌<◌}
use Rattle.std.specs.Vec.{vec_capacity}
use Rattle.word_steps.specs.Layout.{size_of, slot_count}
use Rattle.word_parts.specs.Preparing.{ArePlaced, AreLoose}
use Rattle.word_parts.proofs.preparing.spread_shares.Given as goal

abbrev pub invariant-loop-number : goal.invariant-loop-number
invariant-loop-number l = record {
  placed : ArePlaced l.graph l.number 0 l.slots.items l.lent.items;
  loose : AreLoose l.slots.items × AreLoose l.lent.items;
  room : slot_count (size_of l.graph) ≤ vec_capacity l.slots;
  some : 0 < l.number;
}
