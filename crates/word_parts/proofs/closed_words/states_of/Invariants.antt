use Rattle.std.proofs.Common.{◌≡◌, ◌<◌, ◌≤◌, ℕ, length, vec_len}
use Rattle.std.specs.Prelude.{Some, slice_get}
use Rattle.std.specs.Slots.{slots_items}
use Rattle.std.specs.Vec.{vec_capacity}
use Rattle.word_steps.specs.Layout.{size_of}
use Rattle.word_parts.specs.Reading.{state_for}
use Rattle.word_parts.proofs.closed_words.states_of.Given as goal

abbrev pub invariant-loop-line : goal.invariant-loop-line
invariant-loop-line l = record {
  number : vec_len l.states ≡ l.line;
  long : length l.states.items ≡ l.line;
  room : length l.graph.lines ≤ vec_capacity l.states;
  so_far : (i : ℕ) → i < l.line → slice_get l.states.items i ≡ Some (state_for (slots_items l.closed.words) (size_of l.graph) l.handles i);
}
