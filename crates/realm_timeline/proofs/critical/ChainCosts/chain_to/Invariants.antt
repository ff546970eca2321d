use Rattle.std.proofs.Common.{◌+◌, ◌≤◌, length}
use Rattle.std.specs.Prelude.{reverse}
use Rattle.realm_timeline.specs.ChainCosts.{IsWalk}
use Rattle.realm_timeline.proofs.ChainCostFacts.{walk_left, IsPlannedOrNone}
use Rattle.realm_timeline.proofs.critical.ChainCosts.chain_to.Given as goal

abbrev pub invariant-loop-next : goal.invariant-loop-next
invariant-loop-next l = record {
  walk : IsWalk l.self.before.items l.fn.top l.next (reverse l.lines.items);
  planned : IsPlannedOrNone l.graph l.next;
  room : length l.lines.items + walk_left l.order l.next ≤ length l.order;
}

abbrev pub decreases-loop-next : goal.decreases-loop-next
decreases-loop-next l = walk_left l.order l.next
