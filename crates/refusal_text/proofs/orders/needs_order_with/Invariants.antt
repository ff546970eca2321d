use Rattle.std.proofs.Common.{◌≡◌, false, take}
use Rattle.std.specs.List.{list_any}
use Rattle.graph_terms.specs.Access.{all_accesses}
use Rattle.refusal_text.specs.Orders.{uses_need_order}
use Rattle.refusal_text.proofs.orders.needs_order_with.Given as goal

abbrev pub invariant-loop-k : goal.invariant-loop-k
invariant-loop-k l = list_any (uses_need_order l.graph l.one) (take l.k (all_accesses l.graph l.line)) ≡ false
