use Rattle.std.proofs.Common.{◌≡◌, take, map}
use Rattle.std.specs.Prelude.{unwrap_or}
use Rattle.graph_words.specs.Words.{value_of}
use Rattle.graph_words.specs.Draft.{values_placed}
use Rattle.word_meanings.specs.Telling.{AllTell}
use Rattle.graph_reader.proofs.calls.see_values.Given as goal

abbrev pub invariant-loop-word : goal.invariant-loop-word
invariant-loop-word l = record {
  values : l.values ≡ map (λ w. unwrap_or (value_of w) 0) (take l.word-index (map (λ w. w.now) l.words));
  faults : AllTell l.graph (values_placed (take l.word-index (map (λ w. w.now) l.words))) l.faults;
}
