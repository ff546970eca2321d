-- At numbers that are no lines each rule holds.
use Rattle.std.proofs.Common.{◌≡◌, ℕ, zero, suc, ◌<◌, ◌≤◌, ◌⊎◌, inl, inr, List, [], ◌∷◌, length, arith}
use Rattle.std.specs.Prelude.{Some, slice_get}
use Rattle.std.proofs.lemmas.Option.{none-some}
use Rattle.graph_terms.specs.declared.verb.Line.{Line}
use Rattle.graph_terms.specs.Graph.{GraphValue, is_acquire_of}
use Rattle.graph_terms.specs.Edges.{edges}
use Rattle.graph_meaning.specs.Path.{HasPath}
use Rattle.graph_meaning.specs.Rules.{ReleasedAt, SectionAt, DescendsAt, ReleaseFaultAt}
use Rattle.graph_meaning.proofs.Public.{path_below}
use Rattle.graph_terms.proofs.Public.{passes_below}
use Rattle.cycle_search.specs.Paths.{EdgesBetween}

line_there : (ls : List Line) (i : ℕ) (l : Line) → slice_get ls i ≡ Some l → i < length ls
line_there [] i l h = absurd (none-some l h)
line_there (x ∷ ls) zero l h = omega arith
line_there (x ∷ ls) (suc i) l h = let b : i < length ls = line_there ls i l h in omega arith

-- at numbers that are no lines each rule holds
pub released_beyond : (g : GraphValue) (i : ℕ) → length g.lines ≤ i → ReleasedAt g i
released_beyond g i h l a = (let b : i < length g.lines = passes_below (is_acquire_of l) g i a in absurd (omega arith))

pub fault_beyond : (g : GraphValue) (i : ℕ) → length g.lines ≤ i → ReleaseFaultAt g i
fault_beyond g i h q l at r = (let b : i < length g.lines = line_there g.lines i l at in absurd (omega arith))

module _ (g : GraphValue) (between : EdgesBetween g) where
  path_lines : (i j : ℕ) → HasPath g i j → (i < length g.lines) × (j < length g.lines)
  path_lines i j p = path_below (edges g) (length g.lines) between p

  pub section_beyond : (i j : ℕ) → (length g.lines ≤ i) ⊎ (length g.lines ≤ j) → SectionAt g i j
  section_beyond i j (inl h) q r p = (let b : i < length g.lines = (path_lines j i p).1 in absurd (omega arith))
  section_beyond i j (inr h) q r p = (let b : j < length g.lines = (path_lines j i p).0 in absurd (omega arith))

  pub descends_beyond : (i j : ℕ) → (length g.lines ≤ i) ⊎ (length g.lines ≤ j) → DescendsAt g i j
  descends_beyond i j (inl h) l k s a = (let b : i < length g.lines = (path_lines i j s.entered).0 in absurd (omega arith))
  descends_beyond i j (inr h) l k s a = (let b : j < length g.lines = (path_lines i j s.entered).1 in absurd (omega arith))
