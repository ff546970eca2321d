use Rattle.std.proofs.Common.{◌≡◌, ◌≤◌, ◌&&◌, ◌||◌, ℕ, length}
use Rattle.std.specs.Prelude.{◌==◌}
use Rattle.std.specs.List.{list_any}
use Rattle.flow_order.specs.Bits.{word_bit}
use Rattle.flow_order.specs.SourceParts.{down_from, sources_after}
use Rattle.task_flow.specs.Construction.{are_rivals}
use Rattle.task_flow.proofs.contended.mark_rivals.Given as goal

abbrev pub invariant-others : goal.invariant-others
invariant-others l = record {
  size : length l.bits ≡ length l.initial.bits;
  most : l.above ≤ l.line;
  left : (k : ℕ) → (word_bit l.initial.bits k || list_any (λ x. are_rivals l.flow (sources_after l.flow l.commute (length l.flow.lines)) x l.line && ((x == k) || (l.line == k))) (down_from l.line))
      ≡ (word_bit l.bits k || list_any (λ x. are_rivals l.flow (sources_after l.flow l.commute (length l.flow.lines)) x l.line && ((x == k) || (l.line == k))) (down_from l.above));
}

abbrev pub decreases-others : goal.decreases-others
decreases-others l = l.above
