use Rattle.std.proofs.Common.{◌≡◌, ◌<◌, ◌≤◌, ℕ, length}
use Rattle.std.specs.Prelude.{Some, None, slice_get}
use Rattle.std.specs.Slots.{slots_items, slots_len, slots_filled}
use Rattle.graph_terms.specs.Graph.{columns}
use Rattle.index_spaces.specs.Column.{ColumnValue}
use Rattle.word_steps.specs.Layout.{size_of, slot_count}
use Rattle.word_steps.specs.Lending.{LiesIn}
use Rattle.word_parts.specs.Emptying.{AreTaken}
use Rattle.word_parts.proofs.closed_slots.homes_of.Given as goal

abbrev pub invariant-loop-c : goal.invariant-loop-c
invariant-loop-c l = record {
  deep : slots_len l.closed.slots ≡ slot_count (size_of l.graph);
  taken : AreTaken (size_of l.graph) (length l.graph.lines) l.c 0 (slots_filled l.closed.slots);
  same : slots_items l.closed.slots ≡ slots_items l.initial.closed.slots;
  each : length l.homes ≡ length (columns l.graph);
  home : (k : ℕ) (x : ColumnValue) → k < l.c → LiesIn l.graph (slots_items l.initial.closed.slots) k x → slice_get l.homes k ≡ Some (Some x);
  out : (k : ℕ) → l.c ≤ k → k < length (columns l.graph) → slice_get l.homes k ≡ Some None;
}
