use Rattle.std.proofs.Common.{◌≡◌, take}
use Rattle.graph_copies.proofs.lists.copy_of_items.Given as goal

abbrev pub invariant-loop-item : goal.invariant-loop-item
invariant-loop-item g l = (l.copy ≡ take l.item-index l.item-items) × (l.item-items ≡ l.items)
