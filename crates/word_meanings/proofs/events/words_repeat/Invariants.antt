use Rattle.std.proofs.Common.{◌≡◌, drop}
use Rattle.basics.specs.Words.{contents}
use Rattle.std.specs.Str.{bytes_eq}
use Rattle.graph_terms.specs.Fits.{repeats}
use Rattle.word_meanings.proofs.events.words_repeat.Given as goal

abbrev pub invariant-loop-i : goal.invariant-loop-i
invariant-loop-i l = repeats bytes_eq (drop l.i (contents l.words)) ≡ repeats bytes_eq (contents l.words)
