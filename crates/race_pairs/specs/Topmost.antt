-- Races by their later lines.
use Rattle.std.specs.Prelude.{ℕ, ◌<◌}
use Rattle.graph_terms.specs.Graph.{GraphValue}
use Rattle.graph_meaning.specs.Rules.{Everywhere, RaceAt}

-- the rule of races, by the later line
abbrev pub races_with : GraphValue → ℕ → ℕ → Type 0
races_with g j i = RaceAt g i j

-- no line above line n races with one above itself
abbrev pub NoneRaceBelow : GraphValue → ℕ → Type 0
NoneRaceBelow g n = (k : ℕ) → k < n → Everywhere (races_with g k)
