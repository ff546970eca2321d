-- Classes by the column and the points of their spaces.
use Rattle.std.specs.Prelude.{◌≡◌, ℕ, ◌<◌, ◌≤◌, ◌⊎◌, List, length, Some, IsTrue, Vec, Contains, slice_get}
use Rattle.std.specs.Global.{Global}
use Rattle.index_spaces.specs.Space.{has_point}
use Rattle.graph_terms.specs.declared.verb.Access.{Access}
use Rattle.graph_terms.specs.Graph.{GraphValue, space_at, named_spaces}
use Rattle.graph_terms.specs.Access.{AccessesConflict}
use Rattle.conflict_classes.specs.Classes.{IsNear}
use Rattle.conflict_classes.specs.declared.class_conflicts.Spot.{Spot}

-- the points of a space lie from `low` to `high`
abbrev pub IsSpan : List (ℕ × ℕ) → ℕ → ℕ → Type 0
IsSpan space low high = (p : ℕ) → IsTrue (has_point space p) → (low ≤ p) × (p ≤ high)

-- the spot of a class
pub record IsSpot (g : GraphValue) (keys : List Access) (s : Spot) : Type 0 where
  pub key : Access
  pub is_key : slice_get keys s.class ≡ Some key
  pub column : s.column ≡ key.column
  pub space : key.space < length (named_spaces g)
  pub span : IsSpan (space_at g key.space) s.first s.last

-- each class below a number has a spot
pub record AreSpots (g : GraphValue) (keys : List Access) (n : ℕ) (spots : List Spot) : Type 0 where
  pub each : (s : Spot) → Contains spots s → IsSpot g keys s
  pub all : (c : ℕ) → c < n → (s : Spot) × Contains spots s × (s.class ≡ c)

-- spots by column, and in a column by their first points
abbrev pub IsUpTo : Spot → Spot → Type 0
IsUpTo s t = (s.column < t.column) ⊎ ((s.column ≡ t.column) × (s.first ≤ t.first))

abbrev pub AreAscending : List Spot → Type 0
AreAscending spots = (i j : ℕ) (s t : Spot) → i ≤ j → slice_get spots i ≡ Some s → slice_get spots j ≡ Some t → IsUpTo s t

-- a spot is of another column or begins behind the end of the first
abbrev pub IsFar : Spot → Spot → Type 0
IsFar s t = s.column ≡ t.column → s.last < t.first

-- classes of two spots are near one another where they conflict
abbrev pub AreLinked : GraphValue → List Access → List (Vec ℕ Global) → Spot → Spot → Type 0
AreLinked g keys near s t = (a b : Access) → slice_get keys s.class ≡ Some a → slice_get keys t.class ≡ Some b → AccessesConflict g a b → IsNear near s.class t.class × IsNear near t.class s.class

-- each spot before place p of the list and each spot after it are linked
abbrev pub AreLinkedTo : GraphValue → List Access → List Spot → List (Vec ℕ Global) → ℕ → Type 0
AreLinkedTo g keys spots near p = (i j : ℕ) (s t : Spot) → i < p → i < j → slice_get spots i ≡ Some s → slice_get spots j ≡ Some t → AreLinked g keys near s t

-- and the spot at place p with those before place q
abbrev pub IsLinkedTo : GraphValue → List Access → List Spot → List (Vec ℕ Global) → ℕ → ℕ → Type 0
IsLinkedTo g keys spots near p q = (j : ℕ) (s t : Spot) → p < j → j < q → slice_get spots p ≡ Some s → slice_get spots j ≡ Some t → AreLinked g keys near s t

-- lists of classes below a number grow
pub record AreGrown (n : ℕ) (old new : List (Vec ℕ Global)) : Type 0 where
  pub size : length new ≡ length old
  pub kept : (c d : ℕ) → IsNear old c d → IsNear new c d
  pub known : ((c d : ℕ) → IsNear old c d → d < n) → (c d : ℕ) → IsNear new c d → d < n
