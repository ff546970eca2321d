use Rattle.std.proofs.Common.{◌≡◌, ◌++◌, take}
use Rattle.basics.specs.Words.{contents}
use Rattle.line_forms.specs.Words.{words_at}
use Rattle.line_forms.proofs.nearest.put_words_at.Given as goal

abbrev pub invariant-loop-other : goal.invariant-loop-other
invariant-loop-other l = contents l.found.items ≡ contents l.initial.found.items ++ words_at l.away l.word (contents (take l.other-index l.words))
