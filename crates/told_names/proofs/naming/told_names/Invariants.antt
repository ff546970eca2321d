use Rattle.std.proofs.Common.{◌≡◌}
use Rattle.basics.specs.Words.{contents}
use Rattle.told_names.specs.Named.{told_word, once_words}
use Rattle.told_names.proofs.naming.told_names.Given as goal

abbrev pub invariant-loop-k : goal.invariant-loop-k
invariant-loop-k l = l.list ≡ once_words (told_word l.fn.format (contents l.names) l.number (contents l.words)) l.k
