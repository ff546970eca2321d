-- What contracts see of a graph that was accepted.
use Rattle.std.specs.Prelude.{ℕ}
use Rattle.graph_terms.specs.Graph.{GraphValue}

-- an accepted graph with its need
pub record CheckedValue : Type 0 where
  pub graph : GraphValue
  pub need : ℕ
