use Rattle.std.proofs.Common.{◌≡◌, length}
use Rattle.cycle_search.proofs.ranks.Ranking.give_all.Given as goal

abbrev pub invariant-loop : goal.invariant-loop
invariant-loop l = length l.self.ranks.items ≡ length l.graph.lines
