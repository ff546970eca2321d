use Rattle.std.proofs.Common.{◌≡◌, ◌++◌, take}
use Rattle.basics.specs.Words.{contents}
use Rattle.told_names.specs.Named.{named_texts}
use Rattle.told_names.proofs.naming.put_each_named.Given as goal

abbrev pub invariant-loop-word : goal.invariant-loop-word
invariant-loop-word l = l.text ≡ l.initial.text ++ named_texts (contents l.lines) (take l.word-index l.words)
