use Rattle.std.proofs.Common.{◌≡◌}
use Rattle.basics.specs.Sums.{below}
use Rattle.refused_words.proofs.LimitFacts.{entering_line}
use Rattle.refused_words.proofs.operations.edge_count.Given as goal

abbrev pub invariant-loop-line : goal.invariant-loop-line
invariant-loop-line l = l.count ≡ below (entering_line l.graph) l.line
