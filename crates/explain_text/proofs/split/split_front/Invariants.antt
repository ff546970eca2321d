use Rattle.std.proofs.Common.{◌≡◌, ◌++◌, length}
use Rattle.basics.specs.Words.{contents}
use Rattle.graph_words.specs.Words.{pieces}
use Rattle.explain_text.proofs.split.split_front.Given as goal

abbrev pub invariant-loop-rest : goal.invariant-loop-rest
invariant-loop-rest l = contents l.parts.items ++ pieces 10 l.rest ≡ pieces 10 l.bytes

abbrev pub decreases-loop-rest : goal.decreases-loop-rest
decreases-loop-rest l = length l.rest
