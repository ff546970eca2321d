use Rattle.std.proofs.Common.{◌≡◌, length}
use Rattle.cycle_search.proofs.ranks.Search.take_all.Given as goal

abbrev pub invariant-loop : goal.invariant-loop
invariant-loop l = length l.self.entered.items ≡ length l.graph.lines
