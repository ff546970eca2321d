-- What the sources of the lines have to be: what feeds a line of the flow, directly or through lines that only order, is what it depends on; and of what it depends on, each has a path to it, or a chain to a line that has.
use Rattle.std.specs.Prelude.{◌≡◌, ℕ, ◌<◌, ◌⊎◌, Bool, IsTrue, length, Contains}
use Rattle.graph_terms.specs.declared.verb.Edge.{Edge}
use Rattle.graph_terms.specs.Graph.{GraphValue, line_passes}
use Rattle.graph_terms.specs.Edges.{edges}
use Rattle.graph_meaning.specs.Path.{Path}
use Rattle.flow_order.specs.Meaning.{depends, Chain}
use Rattle.flow_order.specs.Orders.{passing_edges}
use Rattle.flow_order.specs.Written.{orders_alone}

-- edges lead from one line to another, with lines that only order between them
pub data Feeds (g : GraphValue) : ℕ → ℕ → Type 0 where
  straight : {i j : ℕ} → (e : Edge) → Contains (edges g) e → e.from ≡ i → e.to ≡ j → Feeds g i j
  through : {i j : ℕ} → (e : Edge) → Contains (edges g) e → e.from ≡ i → IsTrue (line_passes orders_alone g e.to) → Feeds g e.to j → Feeds g i j

pub record SourcesStand (f : GraphValue) (commute : Bool) (g : GraphValue) (place : ℕ → ℕ) : Type 0 where
  pub sound : (i j : ℕ) → i < length f.lines → j < length f.lines → Feeds g (place i) (place j) → IsTrue (depends f commute i j)
  pub complete : (i j : ℕ) → i < length f.lines → j < length f.lines → IsTrue (depends f commute i j) →
      Path (passing_edges g) (place i) (place j) ⊎ ((k : ℕ) × (k < length f.lines) × Chain f commute i k × Path (passing_edges g) (place k) (place j))
