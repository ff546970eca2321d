use Rattle.std.proofs.Common.{◌≡◌, length}
use Rattle.basics.specs.Words.{contents}
use Rattle.graph_words.specs.Calls.{behind_accesses}
use Rattle.graph_words.proofs.calls.behind_accesses.Given as goal

abbrev pub invariant-loop-rest : goal.invariant-loop-rest
invariant-loop-rest l = behind_accesses (contents l.rest) ≡ behind_accesses (contents l.words)

abbrev pub decreases-loop-rest : goal.decreases-loop-rest
decreases-loop-rest l = length l.rest
