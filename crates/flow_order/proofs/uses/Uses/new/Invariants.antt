use Rattle.std.proofs.Common.{◌≡◌, [], ℕ, length}
use Rattle.std.specs.Prelude.{Some, slice_get}
use Rattle.flow_order.specs.declared.uses.ColumnUses.{ColumnUses}
use Rattle.flow_order.proofs.uses.Uses.new.Given as goal

abbrev pub invariant-loop-column : goal.invariant-loop-column
invariant-loop-column l = record {
  count : length l.columns.items ≡ l._column;
  none : (c : ℕ) (x : ColumnUses) → slice_get l.columns.items c ≡ Some x → x.classes.items ≡ [];
}
