use Rattle.std.proofs.Common.{◌≤◌, ◌++◌, take, length}
use Rattle.graph_terms.specs.Access.{accesses}
use Rattle.flow_order.specs.Uses.{AreUses, uses_before, uses_at}
use Rattle.flow_order.proofs.uses.Uses.add_line.Given as goal

abbrev pub invariant-loop-k : goal.invariant-loop-k
invariant-loop-k l = record {
  few : l.k ≤ length (accesses l.flow l.line);
  uses : AreUses l.flow l.commute (uses_before l.flow l.line ++ uses_at l.line (take l.k (accesses l.flow l.line))) l.self.columns.items;
}
