use Rattle.std.proofs.Common.{◌≡◌, ◌++◌, take}
use Rattle.std.specs.Prelude.{flat_map}
use Rattle.basics.specs.Words.{contents}
use Rattle.line_forms.specs.Hint.{before_space}
use Rattle.line_forms.proofs.hint.put_before.Given as goal

abbrev pub invariant-loop-word : goal.invariant-loop-word
invariant-loop-word l = l.out.items ≡ l.initial.out.items ++ flat_map before_space (contents (take l.word-index l.words))
