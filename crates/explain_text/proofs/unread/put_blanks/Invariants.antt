use Rattle.std.proofs.Common.{◌≡◌, ◌++◌, take}
use Rattle.std.specs.Prelude.{flat_map}
use Rattle.basics.specs.Words.{contents}
use Rattle.explain_text.specs.Unread.{blank_word}
use Rattle.explain_text.proofs.unread.put_blanks.Given as goal

abbrev pub invariant-loop-word : goal.invariant-loop-word
invariant-loop-word l = l.text ≡ l.initial.text ++ flat_map blank_word (contents (take l.word-index l.words))
