use Rattle.std.proofs.Common.{◌≡◌, ◌<◌, ℕ}
use mathlib.Core.Option.{some}
use lib.ListN.{get_elem?}
use Rattle.std.specs.Slots.{slots_items, slots_len, slots_filled}
use Rattle.shared_events.specs.Seats.{Keeps}
use Rattle.shared_events.specs.Views.{lists, IsAt}
use Rattle.word_steps.specs.declared.content.Content.{Content}
use Rattle.word_steps.specs.Layout.{size_of, line_slot, slot_count}
use Rattle.word_parts.specs.Emptying.{AreTaken, IsSettled}
use Rattle.word_parts.proofs.closed_slots.settle_lines.Given as goal

abbrev pub invariant-loop-line : goal.invariant-loop-line
invariant-loop-line l = record {
  at : IsAt l.events l.seat;
  kept : Keeps (lists l.initial.seat) (lists l.seat);
  deep : slots_len l.closed.slots ≡ slot_count (size_of l.graph);
  taken : AreTaken (size_of l.graph) l.line 0 0 (slots_filled l.closed.slots);
  same : (slots_items l.closed.slots ≡ slots_items l.initial.closed.slots) × (l.closed.words ≡ l.initial.closed.words);
  settled : (i : ℕ) (x : Content) → i < l.line → get_elem? (slots_items l.initial.closed.slots) (line_slot (size_of l.graph) i) ≡ some x → IsSettled (lists l.seat) x;
}
