use Rattle.std.proofs.Common.{◌≡◌, ◌≤◌, true, length, take, map}
use Rattle.std.specs.Vec.{vec_capacity}
use Rattle.graph_words.specs.Draft.{line_number}
use Rattle.graph_reader.specs.Merges.{all_lines}
use Rattle.graph_reader.proofs.merges.lines_of.Given as goal

abbrev pub invariant-loop-word : goal.invariant-loop-word
invariant-loop-word l = record {
  items : l.numbers.items ≡ map (line_number l.graph) (take l.word-index (map (λ w. w.now) l.words));
  each : all_lines l.graph (take l.word-index (map (λ w. w.now) l.words)) ≡ true;
  room : length l.words ≤ vec_capacity l.numbers;
}
