use Rattle.std.proofs.Common.{◌≡◌, length}
use Rattle.realm_timeline.specs.Steps.{Removes}
use Rattle.realm_timeline.proofs.HoldingFacts.{first_bar}
use Rattle.realm_timeline.proofs.holding.remove_uses.Given as goal

abbrev pub invariant-loop-k : goal.invariant-loop-k
invariant-loop-k l = record {
  count : length l.queues.items ≡ length l.fn.queues.items;
  holder : Removes (first_bar l.graph l.line l.k) l.fn.queues.items l.queues.items l.line;
}
