-- Paths as lists of edges that can be followed one by one.
use Rattle.std.specs.Prelude.{◌≡◌, ℕ, ◌<◌, ◌≤◌, List, [], ◌∷◌, length, Contains}
use Rattle.graph_terms.specs.declared.verb.Edge.{Edge}
use Rattle.graph_terms.specs.Graph.{GraphValue}
use Rattle.graph_terms.specs.Edges.{edges}
use Rattle.graph_meaning.specs.Path.{Path, last, first, HasPath}

-- the edges lead from line i to line j: each of the list is there, and begins where the one before it ends
abbrev pub Leads : List Edge → ℕ → ℕ → List Edge → Type 0
Leads all i j [] = i ≡ j
Leads all i j (e ∷ rest) = Contains all e × (e.from ≡ i) × Leads all e.to j rest

-- a path as a list of its edges, of which there is one or more
pub record IsPath (g : GraphValue) (i j : ℕ) (p : List Edge) : Type 0 where
  pub some : 0 < length p
  pub leads : Leads (edges g) i j p

-- no path has fewer edges
pub record IsShortest (g : GraphValue) (i j : ℕ) (p : List Edge) : Type 0 where
  pub path : IsPath g i j p
  pub shortest : (q : List Edge) → IsPath g i j q → length p ≤ length q

-- the edges of a path
abbrev pub path_edges : {all : List Edge} {i j : ℕ} → Path all i j → List Edge
path_edges (last e c f t) = e ∷ []
path_edges (first e c f p) = e ∷ path_edges p

-- the paths of a graph are the lists of edges that are paths
pub record PathsAreLists : Type 0 where
  pub listed : (g : GraphValue) (i j : ℕ) (p : HasPath g i j) → IsPath g i j (path_edges p)
  pub each : (g : GraphValue) (i j : ℕ) (q : List Edge) → IsPath g i j q → (p : HasPath g i j) × (path_edges p ≡ q)
