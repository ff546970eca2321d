-- The intervals of some spaces, each with the place of its space.
use Rattle.std.specs.Prelude.{◌≡◌, ℕ, ◌<◌, ◌≤◌, List, length, Contains, IsTrue}
use Rattle.std.specs.List.Sorted.{IsNonDecreasingBy}
use Rattle.index_spaces.specs.Space.{interval_has, has_point}
use Rattle.space_classes.specs.declared.classes.Span.{Span}
use Rattle.space_classes.specs.declared.classes.SpaceClasses.{SpaceClasses}
use Rattle.space_classes.specs.Classes.{Spaces, space_of, AreClasses}

abbrev pub first_of : Span → ℕ
first_of x = x.first

abbrev pub span_of : ℕ → ℕ × ℕ → Span
span_of k i = record { first = i.0; last = i.1; owner = k }

-- a point lies in an interval
abbrev pub IsIn : ℕ → Span → Type 0
IsIn p x = (x.first ≤ p) × (p ≤ x.last)

-- an interval of the space at its place
pub record IsSpan (spaces : Spaces) (x : Span) : Type 0 where
  pub owner : x.owner < length spaces
  pub runs_up : x.first ≤ x.last
  pub points : (p : ℕ) → IsIn p x → IsTrue (has_point (space_of spaces x.owner) p)

-- these are all intervals of spaces
pub record AreSpans (spaces : Spaces) (spans : List Span) : Type 0 where
  pub each : (x : Span) → Contains spans x → IsSpan spaces x
  pub all : (k p : ℕ) → k < length spaces → IsTrue (has_point (space_of spaces k) p) → (x : Span) × Contains spans x × (x.owner ≡ k) × IsIn p x

-- intervals of spaces by their first points, and the labels of their classes
pub record HasClasses (spaces : Spaces) (x : SpaceClasses) : Type 0 where
  pub spans : AreSpans spaces x.spans.items
  pub sorted : IsNonDecreasingBy first_of x.spans.items
  pub classes : AreClasses spaces x.labels.items
