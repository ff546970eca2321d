use Rattle.std.proofs.Common.{◌≡◌, ◌-◌, ◌≤◌, ℕ, length, get_or}
use Rattle.std.specs.Vec.{vec_capacity}
use Rattle.event_table.proofs.word.lengthen.Given as goal

abbrev pub invariant-loop-words : goal.invariant-loop-words
invariant-loop-words l = record {
  same : (i : ℕ) → get_or l.words.items i 0 ≡ get_or l.initial.words.items i 0;
  more : length l.initial.words.items ≤ length l.words.items;
  room : vec_capacity l.initial.words ≤ vec_capacity l.words;
}

abbrev pub decreases-loop-words : goal.decreases-loop-words
decreases-loop-words l = l.size - length l.words.items
