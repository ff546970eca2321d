use Rattle.std.specs.Prelude.{Contains}
use Rattle.std.specs.Slots.{slots_items}
use Rattle.event_table.specs.Chains.{AreWaiters, chain_in}
use Rattle.event_table.proofs.left.stands.Given as goal

abbrev pub decreases-loop-left : goal.decreases-loop-left
decreases-loop-left l = l.left

abbrev pub invariant-loop-left : goal.invariant-loop-left
invariant-loop-left l = record {
  inside : AreWaiters l.shape (chain_in l.left l.shape.slots (slots_items l.closed.words) l.next);
  there : Contains (chain_in l.left l.shape.slots (slots_items l.closed.words) l.next) l.waiter → Contains (chain_in l.shape.waiters l.shape.slots (slots_items l.closed.words) l.first) l.waiter;
  back : Contains (chain_in l.shape.waiters l.shape.slots (slots_items l.closed.words) l.first) l.waiter → Contains (chain_in l.left l.shape.slots (slots_items l.closed.words) l.next) l.waiter;
}
