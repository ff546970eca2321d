-- Paths: one or more edges of any kinds, each beginning where the one before it ends.
use Rattle.std.specs.Prelude.{◌≡◌, ℕ, ◌⊎◌, List, Contains, IsTrue}
use Rattle.graph_terms.specs.declared.verb.Edge.{Edge}
use Rattle.graph_terms.specs.Graph.{GraphValue, never_comes}
use Rattle.graph_terms.specs.Edges.{edges}

-- the edges of the list lead from one line to another
pub data Path (all : List Edge) : ℕ → ℕ → Type 0 where
  last : {i j : ℕ} → (e : Edge) → Contains all e → e.from ≡ i → e.to ≡ j → Path all i j
  first : {i j : ℕ} → (e : Edge) → Contains all e → e.from ≡ i → Path all e.to j → Path all i j

-- a path of a graph
abbrev pub HasPath : GraphValue → ℕ → ℕ → Type 0
HasPath g i j = Path (edges g) i j

-- a line that never comes, or a line that one has a path to
abbrev pub Reached : GraphValue → ℕ → Type 0
Reached g i = IsTrue (never_comes g i) ⊎ ((j : ℕ) × IsTrue (never_comes g j) × HasPath g j i)
