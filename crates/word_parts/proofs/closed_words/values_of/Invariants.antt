use Rattle.std.proofs.Common.{◌≡◌, ◌<◌, ◌≤◌, ℕ, length, vec_len}
use Rattle.std.specs.Prelude.{Some, slice_get, slice_index}
use Rattle.std.specs.Slots.{slots_items}
use Rattle.std.specs.Vec.{vec_capacity}
use Rattle.graph_terms.specs.Graph.{verb_at}
use Rattle.word_steps.specs.Layout.{size_of, value_word}
use Rattle.word_parts.specs.Reading.{value_for}
use Rattle.word_parts.proofs.closed_words.values_of.Given as goal

abbrev pub invariant-loop-line : goal.invariant-loop-line
invariant-loop-line l = record {
  number : vec_len l.values ≡ l.line;
  long : length l.values.items ≡ l.line;
  room : length l.graph.lines ≤ vec_capacity l.values;
  so_far : (i : ℕ) → i < l.line → slice_get l.values.items i ≡ Some (value_for (verb_at l.graph i) (slice_index (slots_items l.closed.words) (value_word (size_of l.graph) i)));
}
