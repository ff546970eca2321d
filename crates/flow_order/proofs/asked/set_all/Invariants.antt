use Rattle.std.proofs.Common.{◌≡◌, ◌||◌, ℕ, take, length}
use Rattle.flow_order.specs.Bits.{word_bit}
use Rattle.flow_order.specs.SourceParts.{has}
use Rattle.flow_order.proofs.asked.set_all.Given as goal

abbrev pub invariant-loop-line : goal.invariant-loop-line
invariant-loop-line l = record {
  items : l.line-items ≡ l.lines;
  size : length l.row ≡ length l.initial.row;
  bits : (i : ℕ) → word_bit l.row i ≡ (word_bit l.initial.row i || has (take l.line-index l.line-items) i);
}
