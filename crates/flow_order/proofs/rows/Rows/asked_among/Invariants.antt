use Rattle.std.proofs.Common.{◌≡◌, ℕ, take, length}
use Rattle.std.specs.List.{list_any}
use Rattle.flow_order.specs.Bits.{word_bit}
use Rattle.flow_order.specs.Rows.{words_for}
use Rattle.flow_order.specs.SourceParts.{has}
use Rattle.flow_order.proofs.rows.Rows.asked_among.Given as goal

abbrev pub invariant-loop-part : goal.invariant-loop-part
invariant-loop-part l = record {
  size : length l.row ≡ words_for (length l.self.rows.items);
  bits : (i : ℕ) → word_bit l.row i ≡ list_any (λ p. has p i) (take l.part-index l.parts);
}
