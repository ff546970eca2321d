use Rattle.std.proofs.Common.{◌≡◌, length}
use Rattle.cycle_search.proofs.ranks.found_ranks.Given as goal

abbrev pub invariant-loop-k : goal.invariant-loop-k
invariant-loop-k l = length l.ranking.ranks.items ≡ length l.graph.lines
