-- Lines that access points which no line above them does.
use Rattle.std.specs.Prelude.{ℕ, ◌<◌, ◌≤◌, List, Contains, slice_index, IsTrue}
use Rattle.index_spaces.specs.Space.{has_point}
use Rattle.graph_terms.specs.declared.verb.Access.{Access}
use Rattle.graph_terms.specs.Graph.{GraphValue, space_at}
use Rattle.graph_terms.specs.Access.{all_accesses, Conflict}

-- the points of an access are below the end of its column
abbrev pub IsBelowEnd : GraphValue → List ℕ → Access → Type 0
IsBelowEnd g ends a = (p : ℕ) → IsTrue (has_point (space_at g a.space) p) → p < slice_index ends a.column

-- so are those of the accesses of each line above line n
abbrev pub AreEnds : GraphValue → List ℕ → ℕ → Type 0
AreEnds g ends n = (i : ℕ) (a : Access) → i < n → Contains (all_accesses g i) a → IsBelowEnd g ends a

-- a line conflicts with none above it
abbrev pub IsFresh : GraphValue → ℕ → Type 0
IsFresh g j = (i : ℕ) → i < j → Conflict g i j → ⊥

-- all points of intervals are from a start on and below an end
abbrev pub AreBetween : List (ℕ × ℕ) → ℕ → ℕ → Type 0
AreBetween intervals start end = (p : ℕ) → IsTrue (has_point intervals p) → (start ≤ p) × (p < end)

-- ends move on by an access, all of whose points are behind the old end of its column
pub record IsMoved (g : GraphValue) (a : Access) (old new : List ℕ) : Type 0 where
  pub rise : (c : ℕ) → slice_index old c ≤ slice_index new c
  pub behind : (p : ℕ) → IsTrue (has_point (space_at g a.space) p) → slice_index old a.column ≤ p
  pub below : IsBelowEnd g new a
