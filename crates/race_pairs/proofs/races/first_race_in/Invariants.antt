use Rattle.std.proofs.Common.{ℕ, ◌-◌, ◌<◌, length}
use Rattle.graph_meaning.specs.Rules.{Everywhere, RaceAt}
use Rattle.race_pairs.proofs.races.first_race_in.Given as goal

abbrev pub invariant-loop-first : goal.invariant-loop-first
invariant-loop-first l = record { before : (k : ℕ) → k < l.first → Everywhere (RaceAt l.graph k) }

abbrev pub decreases-loop-first : goal.decreases-loop-first
decreases-loop-first l = length l.graph.lines - l.first
