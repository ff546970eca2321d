use Rattle.std.proofs.Common.{◌-◌, ◌≤◌, length}
use Rattle.std.specs.Vec.{vec_capacity}
use Rattle.std.specs.Slots.{slots_items}
use Rattle.event_table.proofs.Copying.{AreCopied}
use Rattle.event_table.proofs.left.copy_fates.Given as goal

abbrev pub invariant-loop-gen_ : goal.invariant-loop-gen_
invariant-loop-gen_ l = record {
  copied : AreCopied l.from l.shape (slots_items l.closed.words) l.initial.to.items l.to.items l.slot l.gen_;
  size : length l.initial.to.items ≤ length l.to.items;
  room : vec_capacity l.initial.to ≤ vec_capacity l.to;
}

abbrev pub decreases-loop-gen_ : goal.decreases-loop-gen_
decreases-loop-gen_ l = l.turns - l.gen_
