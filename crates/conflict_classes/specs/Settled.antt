-- Which conflicts are settled.
use Rattle.std.specs.Prelude.{ℕ, ◌⊎◌}
use Rattle.graph_terms.specs.Graph.{GraphValue}
use Rattle.graph_terms.specs.Access.{Conflict}
use Rattle.graph_meaning.specs.Path.{HasPath}
use Rattle.graph_meaning.specs.Rules.{Exempt}

-- two lines have a path one way or the other or are exempt, where they conflict
abbrev pub IsSettled : GraphValue → ℕ → ℕ → Type 0
IsSettled g i j = Conflict g i j → HasPath g i j ⊎ (HasPath g j i ⊎ Exempt g i j)
