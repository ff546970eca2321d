-- The lines in an order in which each edge leads forward.
use Rattle.std.specs.Prelude.{◌≡◌, ℕ, ◌<◌, List, length, Contains, slice_index}
use Rattle.graph_terms.specs.declared.verb.Edge.{Edge}
use Rattle.graph_terms.specs.Graph.{GraphValue}
use Rattle.graph_terms.specs.Edges.{edges}

-- lines each of which stands before those that its edges lead to, without repeats and without a gap
pub record IsOrder (g : GraphValue) (lines : List ℕ) : Type 0 where
  pub within : (p : ℕ) → p < length lines → slice_index lines p < length g.lines
  pub each : (i : ℕ) → i < length g.lines → (p : ℕ) × (p < length lines) × (slice_index lines p ≡ i)
  pub distinct : (p q : ℕ) → p < q → q < length lines → slice_index lines p ≡ slice_index lines q → ⊥
  pub forward : (e : Edge) (p q : ℕ) → Contains (edges g) e → p < length lines → q < length lines → slice_index lines p ≡ e.from → slice_index lines q ≡ e.to → p < q

-- the same, as many as the graph has
pub record IsPlaced (g : GraphValue) (lines : List ℕ) : Type 0 where
  pub count : length lines ≡ length g.lines
  pub within : (p : ℕ) → p < length lines → slice_index lines p < length g.lines
  pub each : (i : ℕ) → i < length g.lines → (p : ℕ) × (p < length lines) × (slice_index lines p ≡ i)
  pub distinct : (p q : ℕ) → p < q → q < length lines → slice_index lines p ≡ slice_index lines q → ⊥
  pub forward : (e : Edge) (p q : ℕ) → Contains (edges g) e → p < length lines → q < length lines → slice_index lines p ≡ e.from → slice_index lines q ≡ e.to → p < q

-- the place of each line
pub record ArePlaces (lines places : List ℕ) : Type 0 where
  pub size : length places ≡ length lines
  pub place : (i : ℕ) → i < length places → (slice_index places i < length lines) × (slice_index lines (slice_index places i) ≡ i)
