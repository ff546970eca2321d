use Rattle.std.proofs.Common.{◌≡◌, ◌||◌, ℕ, take, length}
use Rattle.flow_order.specs.Bits.{word_bit}
use Rattle.flow_order.specs.SourceParts.{is_reached, sources_after}
use Rattle.flow_order.proofs.sources.reach_all.Given as goal

abbrev pub invariant-loop-line : goal.invariant-loop-line
invariant-loop-line l = record {
  items : l.line-items ≡ l.part;
  size : length l.mask ≡ length l.initial.mask;
  bits : (i : ℕ) → word_bit l.mask i ≡ (word_bit l.initial.mask i || is_reached (sources_after l.flow l.commute (length l.rows.rows.items)) (take l.line-index l.line-items) i);
}
