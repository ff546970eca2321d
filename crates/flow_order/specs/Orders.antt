-- How the edges of a graph have to stand for a flow: paths between its lines are its chains, and faults pass along them.
use Rattle.std.specs.Prelude.{ℕ, ◌<◌, Bool, true, false, List, length, filter}
use Rattle.graph_terms.specs.declared.verb.Edge.{Edge}
use Rattle.graph_terms.specs.declared.verb.EdgeKind.{EdgeKind}
use Rattle.graph_terms.specs.declared.verb.EdgeKind.TheVariants.{Passes}
use Rattle.graph_terms.specs.Graph.{GraphValue}
use Rattle.graph_terms.specs.Edges.{edges}
use Rattle.graph_meaning.specs.Path.{Path, HasPath}
use Rattle.flow_order.specs.Meaning.{Chain}

abbrev pub is_passing : EdgeKind → Bool
is_passing Passes = true
is_passing _ = false

-- the edges along which a fault passes
abbrev pub passing_edges : GraphValue → List Edge
passing_edges g = filter (λ (e : Edge). is_passing e.kind) (edges g)

pub record Orders (f : GraphValue) (commute : Bool) (g : GraphValue) (place : ℕ → ℕ) : Type 0 where
  pub no_more : (i j : ℕ) → i < length f.lines → j < length f.lines → HasPath g (place i) (place j) → Chain f commute i j
  pub enough : (i j : ℕ) → i < length f.lines → j < length f.lines → Chain f commute i j → Path (passing_edges g) (place i) (place j)
