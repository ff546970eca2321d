use Rattle.std.proofs.Common.{◌≡◌, length}
use Rattle.std.specs.Slots.{slots_items, slots_len, slots_filled}
use Rattle.index_spaces.specs.Column.{ColumnValue}
use Rattle.word_steps.specs.Layout.{size_of, slot_count}
use Rattle.word_steps.specs.Lending.{LiesIn, first_for}
use Rattle.word_parts.specs.Emptying.{AreTaken}
use Rattle.share_words.specs.Shares.{share_count}
use Rattle.word_parts.proofs.closed_slots.shares_of.Given as goal

abbrev pub invariant-loop-j : goal.invariant-loop-j
invariant-loop-j l = record {
  deep : slots_len l.closed.slots ≡ slot_count (size_of l.graph);
  taken : AreTaken (size_of l.graph) (length l.graph.lines) l.c l.j (slots_filled l.closed.slots);
  same : slots_items l.closed.slots ≡ slots_items l.initial.closed.slots;
  first : (x : ColumnValue) (h : LiesIn l.graph (slots_items l.initial.closed.slots) l.c x) → l.all ≡ first_for (share_count l.graph l.c) l.j h.lending x;
}
