use Rattle.std.proofs.Common.{◌≡◌, ◌||◌, ℕ, take, length}
use Rattle.std.specs.List.{list_any}
use Rattle.flow_order.specs.Bits.{word_bit}
use Rattle.flow_order.specs.Uses.{stands_in}
use Rattle.flow_order.proofs.uses.ColumnUses.set_asked.Given as goal

abbrev pub invariant-loop-class : goal.invariant-loop-class
invariant-loop-class l = record {
  items : l.class-items ≡ l.self.classes.items;
  size : length l.row ≡ length l.initial.row;
  bits : (i : ℕ) → word_bit l.row i ≡ (word_bit l.initial.row i || list_any (λ x. stands_in l.flow l.commute l.access x i) (take l.class-index l.class-items));
}
