use Rattle.std.proofs.Common.{◌≡◌, ◌≤◌, take, length}
use Rattle.std.specs.Prelude.{filter, not}
use Rattle.graph_terms.specs.Access.{accesses}
use Rattle.flow_order.specs.Rows.{parts_at}
use Rattle.flow_order.specs.SourceParts.{is_large}
use Rattle.flow_order.proofs.sources.parts_by_access.Given as goal

abbrev pub invariant-loop-k : goal.invariant-loop-k
invariant-loop-k l = record {
  few_left : l.k ≤ length (accesses l.flow l.line);
  large : l.large.items ≡ filter (is_large l.flow.format) (parts_at l.flow l.commute l.line (take l.k (accesses l.flow l.line)));
  few : l.few.items ≡ filter (λ p. not (is_large l.flow.format p)) (parts_at l.flow l.commute l.line (take l.k (accesses l.flow l.line)));
}
