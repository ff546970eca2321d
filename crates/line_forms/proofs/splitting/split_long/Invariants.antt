use Rattle.std.proofs.Common.{◌≡◌, ◌++◌, length}
use Rattle.basics.specs.Words.{contents}
use Rattle.graph_words.specs.Words.{pieces}
use Rattle.line_forms.proofs.splitting.split_long.Given as goal

abbrev pub invariant-loop-part : goal.invariant-loop-part
invariant-loop-part l = contents l.parts.items ++ pieces l.separator l.rest ≡ pieces l.separator l.bytes

abbrev pub decreases-loop-part : goal.decreases-loop-part
decreases-loop-part l = length l.rest
