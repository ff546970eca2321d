use Rattle.std.proofs.Common.{◌≡◌, take, map}
use Rattle.graph_words.specs.Draft.{events_placed, line_number}
use Rattle.word_meanings.specs.Telling.{AllTell, no_faults}
use Rattle.word_meanings.proofs.known.known_events.Given as goal

abbrev pub invariant-loop-word : goal.invariant-loop-word
invariant-loop-word l = record {
  lines : l.lines ≡ map (line_number l.graph) (take l.word-index (map (λ w. w.now) l.words));
  faults : AllTell l.graph (events_placed (take l.word-index (map (λ w. w.now) l.words))) no_faults;
}
