-- The race whose later line stands first.
use Rattle.std.specs.Prelude.{ℕ}
use Rattle.graph_terms.specs.Graph.{GraphValue}
use Rattle.graph_meaning.specs.Rules.{FailsFirstTwice}
use Rattle.race_pairs.specs.Topmost.{races_with}

-- lines i and j race, i above j; no line above j races with one above itself, and no line above i races with j
abbrev pub IsTopmostRace : GraphValue → ℕ → ℕ → Type 0
IsTopmostRace g i j = FailsFirstTwice (races_with g) j i
