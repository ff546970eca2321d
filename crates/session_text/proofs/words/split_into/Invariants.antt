use Rattle.std.proofs.Common.{◌≡◌, ◌++◌, length}
use Rattle.basics.specs.Words.{contents}
use Rattle.graph_words.specs.Words.{pieces}
use Rattle.session_text.proofs.words.split_into.Given as goal

abbrev pub invariant-loop-word : goal.invariant-loop-word
invariant-loop-word l = contents l.words.items ++ pieces 32 l.rest ≡ pieces 32 l.line

abbrev pub decreases-loop-word : goal.decreases-loop-word
decreases-loop-word l = length l.rest
