use Rattle.std.proofs.Common.{◌≡◌, ◌++◌, length}
use Rattle.basics.specs.Words.{contents}
use Rattle.told_names.specs.Named.{given_names}
use Rattle.told_names.proofs.named.given_names.Given as goal

abbrev pub invariant-loop-rest : goal.invariant-loop-rest
invariant-loop-rest l = contents l.names.items ++ given_names (contents l.rest) ≡ given_names (contents l.lines)

abbrev pub decreases-loop-rest : goal.decreases-loop-rest
decreases-loop-rest l = length l.rest
