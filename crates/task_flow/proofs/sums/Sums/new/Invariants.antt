use Rattle.std.proofs.Common.{◌≡◌, ◌+◌, ◌<◌, ℕ, [], false, length}
use Rattle.std.specs.Prelude.{◌/◌, slice_index_or}
use Rattle.flow_order.specs.Bits.{word_bit}
use Rattle.task_flow.proofs.sums.Sums.new.Given as goal

abbrev pub invariant-loop-column : goal.invariant-loop-column
invariant-loop-column l = record {
  count : length l.columns.items ≡ l._column;
  size : (c : ℕ) → c < length l.columns.items → length (slice_index_or l.columns.items c []) ≡ (length l.flow.lines + 63) / 64;
  bits : (c k : ℕ) → c < length l.columns.items → word_bit (slice_index_or l.columns.items c []) k ≡ false;
}
