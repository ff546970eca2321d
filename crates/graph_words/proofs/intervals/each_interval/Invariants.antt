use Rattle.std.proofs.Common.{◌≡◌, Some, take, map}
use Rattle.graph_words.specs.Words.{all_intervals}
use Rattle.graph_words.proofs.intervals.each_interval.Given as goal

abbrev pub invariant-loop-word : goal.invariant-loop-word
invariant-loop-word l = all_intervals (take l.word-index (map (λ w. w.now) l.words)) ≡ Some l.pairs.items
