-- What is looked up of a graph: its lines by place, their places, and their releases.
use Rattle.std.specs.Prelude.{◌≡◌, ℕ, ◌<◌, List, length, Contains, slice_index}
use Rattle.graph_terms.specs.declared.verb.Edge.{Edge}
use Rattle.graph_terms.specs.Graph.{GraphValue}
use Rattle.graph_terms.specs.Edges.{edges}
use Rattle.graph_terms.specs.Fits.{IsGraph}
use Rattle.section_sweeps.specs.Releases.{AreReleases}
use Rattle.section_sweeps.specs.declared.lookups.Table.{Table}

-- each line has a place, and each place a line
pub record ArePlaced (n : ℕ) (lines places : List ℕ) : Type 0 where
  pub lines_size : length lines ≡ n
  pub places_size : length places ≡ n
  pub line : (x : ℕ) → x < n → (slice_index lines x < n) × (slice_index places (slice_index lines x) ≡ x)
  pub place : (i : ℕ) → i < n → (slice_index places i < n) × (slice_index lines (slice_index places i) ≡ i)

-- each edge leads to a later place
pub record AreForward (g : GraphValue) (places : List ℕ) : Type 0 where
  pub known : (e : Edge) → Contains (edges g) e → (e.from < length g.lines) × (e.to < length g.lines)
  pub later : (e : Edge) → Contains (edges g) e → slice_index places e.from < slice_index places e.to

pub record IsTable (g : GraphValue) (t : Table) : Type 0 where
  pub is_graph : IsGraph g
  pub placed : ArePlaced (length g.lines) t.lines.items t.places.items
  pub forward : AreForward g t.places.items
  pub releases_are : AreReleases g t.releases.items
