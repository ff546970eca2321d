use Rattle.std.proofs.Common.{◌≡◌, ℕ, [], length}
use Rattle.std.specs.Prelude.{Some, Vec, slice_get}
use Rattle.std.specs.Global.{Global}
use Rattle.column_parts.proofs.accessed.empty_lists.Given as goal

abbrev pub invariant-loop-column : goal.invariant-loop-column
invariant-loop-column l = record {
  count : length l.lists.items ≡ l._column;
  none : (c : ℕ) (x : Vec ℕ Global) → slice_get l.lists.items c ≡ Some x → x.items ≡ [];
}
