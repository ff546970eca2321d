-- Edges between lines.
use Rattle.std.specs.Prelude.{◌<◌, length, Contains}
use Rattle.graph_terms.specs.declared.verb.Edge.{Edge}
use Rattle.graph_terms.specs.Graph.{GraphValue}
use Rattle.graph_terms.specs.Edges.{edges}

-- both ends of each edge are lines of the graph
abbrev pub EdgesBetween : GraphValue → Type 0
EdgesBetween g = (e : Edge) → Contains (edges g) e → (e.from < length g.lines) × (e.to < length g.lines)
