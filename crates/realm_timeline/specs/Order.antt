-- The order in which the lines of a plan start.
use Rattle.std.specs.Prelude.{◌≡◌, ℕ, ◌<◌, ◌≤◌, ◌↔◌, List, length, take, Contains, slice_index}
use Rattle.graph_terms.specs.declared.verb.Edge.{Edge}
use Rattle.graph_terms.specs.Graph.{GraphValue}
use Rattle.graph_terms.specs.Edges.{edges}
use Rattle.realm_timeline.specs.Plan.{Planned}

-- the lines that are to be planned, each once and after its sources
pub record IsOrder (g : GraphValue) (order : List ℕ) : Type 0 where
  pub listed : (i : ℕ) → Contains order i ↔ Planned g i
  pub once : (a b : ℕ) → a < b → b < length order → slice_index order a ≡ slice_index order b → ⊥
  pub before : (p : ℕ) → p < length order → (e : Edge) → Contains (edges g) e → e.to ≡ slice_index order p → Contains (take p order) e.from
  pub few : length order ≤ length g.lines
