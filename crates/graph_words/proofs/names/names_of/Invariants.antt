use Rattle.std.proofs.Common.{◌≡◌, true, take, map}
use Rattle.std.specs.List.{list_all}
use Rattle.graph_terms.specs.Name.{is_name_in}
use Rattle.graph_words.proofs.names.names_of.Given as goal

abbrev pub invariant-loop-word : goal.invariant-loop-word
invariant-loop-word l = record {
  items : l.names.items ≡ take l.word-index (map (λ w. w.now) l.words);
  each : list_all (is_name_in l.format) (take l.word-index (map (λ w. w.now) l.words)) ≡ true;
}
