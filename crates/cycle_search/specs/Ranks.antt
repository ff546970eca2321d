-- Ranks of lines.
use Rattle.std.specs.Prelude.{◌≡◌, ℕ, ◌≤◌, List, length, Contains, slice_index}
use Rattle.graph_terms.specs.declared.verb.Edge.{Edge}
use Rattle.graph_terms.specs.Graph.{GraphValue}
use Rattle.graph_terms.specs.Edges.{edges}

-- each line has a rank, and no edge leads to a lower one
pub record AreRising (g : GraphValue) (ranks : List ℕ) : Type 0 where
  pub size : length ranks ≡ length g.lines
  pub rising : (e : Edge) → Contains (edges g) e → slice_index ranks e.from ≤ slice_index ranks e.to
