use Rattle.std.proofs.Common.{ℕ, ◌-◌, ◌<◌, ◌≤◌, length}
use Rattle.graph_meaning.specs.Rules.{Everywhere}
use Rattle.race_pairs.specs.Topmost.{races_with}
use Rattle.race_pairs.proofs.topmost.topmost_in.Given as goal

abbrev pub invariant-loop-start : goal.invariant-loop-start
invariant-loop-start l = record { begins : l.first ≤ l.start; before : (k : ℕ) → k < l.start → Everywhere (races_with l.graph k) }

abbrev pub decreases-loop-start : goal.decreases-loop-start
decreases-loop-start l = length l.graph.lines - l.start
