use Rattle.std.proofs.Common.{ℕ, ◌<◌}
use Rattle.graph_meaning.specs.Rules.{RaceAt}
use Rattle.race_pairs.proofs.races.first_rival.Given as goal

abbrev pub invariant-loop-other : goal.invariant-loop-other
invariant-loop-other l = record { before : (m : ℕ) → m < l.other → RaceAt l.graph l.line m }
