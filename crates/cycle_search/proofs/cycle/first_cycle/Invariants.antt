use Rattle.std.proofs.Common.{ℕ, ◌<◌}
use Rattle.graph_meaning.specs.Rules.{NoCycleAt}
use Rattle.cycle_search.proofs.cycle.first_cycle.Given as goal

abbrev pub invariant-loop-line : goal.invariant-loop-line
invariant-loop-line l = (k : ℕ) → k < l.line → NoCycleAt l.graph k
